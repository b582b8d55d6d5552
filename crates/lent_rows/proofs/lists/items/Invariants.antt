-- The list goes on from each item, and another fits.
use Rattle.lent_rows.proofs.Items.{Going}
use Rattle.lent_rows.proofs.lists.items.Given as goal

abbrev pub invariant-loop-item : goal.invariant-loop-item
invariant-loop-item g l =
    Going l.fn.left l.fn.token (g.L.Listing.view l.fn.list) l.fn.node_words l.item-end l.item (g.L.Listing.view l.list)
    l.node_words
