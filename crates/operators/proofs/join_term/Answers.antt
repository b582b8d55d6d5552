-- `operators::join_term` meets its contract: a law for each return, found among the facts of its path.
use Rattle.operators.proofs.Bounds.{joined_at, joined-next, term-small, next-refused}
use Rattle.operators.proofs.Laws.{term-refused, term-joined}
use borrow.Author.Rules.{rules}
use Rattle.operators.proofs.join_term.Goals as goal

pub after_operand-requires : goal.after_operand-requires
after_operand-requires c = search (rules, joined_at)

pub returns-in-Ok : goal.returns-in-Ok
returns-in-Ok c = (search (rules, term-joined), search (rules, joined-next, term-small))

pub returns-in-Err : goal.returns-in-Err
returns-in-Err c = (search (rules, term-refused), next-refused _)
