-- `nodes::push_list_item` meets its contract: a law for each return, found among the facts of its path.
use native.Mathlib.Omega.{arith}
use Rattle.codes.proofs.Onto.{returned}
use Rattle.nodes.proofs.Bounds.{push-root}
use Rattle.nodes.proofs.Laws.{past-last}
use Rattle.nodes.proofs.Laws.{item_refused, item-first, item-more}
use borrow.Author.Rules.{rules}
use Rattle.nodes.proofs.push_list_item.Goals as goal

pub returns-in_err-cursor : goal.returns-in_err-cursor
returns-in_err-cursor c = returned c.from_residual.ensures.1 (search (rules, item_refused, c.in_err-cursor.was))

pub patch_list_item-requires : goal.patch_list_item-requires
patch_list_item-requires c = (omega (arith, past-last), search (rules, push-root, c.in_ok-cursor.was))

pub returns-in-Empty : goal.returns-in-Empty
returns-in-Empty c = search (rules, item-first, c.in_ok-cursor.was)

pub returns-in-Open : goal.returns-in-Open
returns-in-Open c = search (rules, item-more, c.in_ok-cursor.was)
