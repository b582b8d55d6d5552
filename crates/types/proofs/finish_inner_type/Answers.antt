-- `types::finish_inner_type` meets its contract: a law for each return, found among the facts of its path.
use Rattle.codes.proofs.Onto.{returned}
use Rattle.types.proofs.Laws.{no-view, view-open, view-read}
use borrow.Author.Rules.{rules}
use Rattle.types.proofs.finish_inner_type.Goals as goal

pub returns-in_err-cursor : goal.returns-in_err-cursor
returns-in_err-cursor c = returned c.from_residual.ensures.1 (search (rules, view-open, c.in_err-cursor.was))

pub returns-in_ok-cursor : goal.returns-in_ok-cursor
returns-in_ok-cursor c = search (rules, view-read, c.in_ok-cursor.was)

pub returns-else-kind-eq-ViewVT : goal.returns-else-kind-eq-ViewVT
returns-else-kind-eq-ViewVT c = search (rules, no-view)
