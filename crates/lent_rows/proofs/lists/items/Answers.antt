-- `lent_rows::lists::items` meets its contract: an item is refused, or the list goes on from it to its end.
use mathlib.Core.Path.{ap}
use Rattle.codes.proofs.Onto.{returned}
use Rattle.lent_rows.specs.Lists.{seen}
use Rattle.lent_rows.proofs.Items.{goes_on, breaks_off, comes_to_end}
use Rattle.lent_rows.proofs.lists.items.Goals as goal

pub returns-in_err-list : goal.returns-in_err-list
returns-in_err-list g c =
    returned c.from_residual.ensures.1
    (breaks_off c.loop-item.invariant c.loop-item-test.true c.with_item.ensures
    (ap (seen g.L.Listing.view) c.in_err-list.was))

pub loop-item-preserved : goal.loop-item-preserved
loop-item-preserved g c =
    goes_on c.loop-item.invariant c.loop-item-test.true c.with_item.ensures (ap (seen g.L.Listing.view) c.in_ok-list.was)

pub returns : goal.returns
returns g c =
    comes_to_end c.loop-item.invariant c.loop-item-test.false (rw c.list-count.ensures at c.push_end_of_list.ensures)
