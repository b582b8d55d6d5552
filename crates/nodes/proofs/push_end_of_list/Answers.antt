-- `nodes::push_end_of_list` meets its contract: a law for each return, found among the facts of its path.
use native.Mathlib.Omega.{arith}
use Rattle.codes.proofs.Onto.{returned}
use Rattle.nodes.proofs.Bounds.{push-root}
use Rattle.nodes.proofs.Laws.{past-last}
use Rattle.nodes.proofs.Laws.{end_refused, end_empty, end-patched}
use borrow.Author.Rules.{rules}
use Rattle.nodes.proofs.push_end_of_list.Goals as goal

pub returns-in_err-end : goal.returns-in_err-end
returns-in_err-end c = returned c.from_residual.ensures.1 (search (rules, end_refused, c.in_err-end.was))

pub patch_list_item-requires : goal.patch_list_item-requires
patch_list_item-requires c = (omega (arith, past-last), search (rules, push-root, c.in_ok-end.was))

pub returns-in-Empty : goal.returns-in-Empty
returns-in-Empty c = search (rules, end_empty, c.in_ok-end.was)

pub returns-in-Open : goal.returns-in-Open
returns-in-Open c = search (rules, end-patched, c.in_ok-end.was)
