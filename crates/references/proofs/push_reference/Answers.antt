-- `references::push_reference` meets its contract: a law for each return, found among the facts of its path.
use Rattle.codes.proofs.Onto.{returned}
use Rattle.nodes.proofs.Bounds.{two-slots}
use Rattle.references.proofs.Laws.{deref-refused, deref-read}
use borrow.Author.Rules.{rules}
use Rattle.references.proofs.push_reference.Goals as goal

pub returns-in_err-cursor : goal.returns-in_err-cursor
returns-in_err-cursor c = returned c.from_residual.ensures.1 (search (rules, deref-refused, c.in_err-cursor.was))

pub push_two-requires-2 : goal.push_two-requires-2
push_two-requires-2 c = search (rules, two-slots, c.in_ok-cursor.was)

pub returns : goal.returns
returns c = search (rules, deref-read, c.in_ok-cursor.was)
