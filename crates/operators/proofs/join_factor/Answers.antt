-- `operators::join_factor` meets its contract: a law for each return, found among the facts of its path.
use Rattle.operators.proofs.Bounds.{joined_at, joined-next, factor-small, next-refused}
use Rattle.operators.proofs.Laws.{factor-refused, factor-joined}
use borrow.Author.Rules.{rules}
use Rattle.operators.proofs.join_factor.Goals as goal

pub after_operand-requires : goal.after_operand-requires
after_operand-requires c = search (rules, joined_at)

pub returns-in-Ok : goal.returns-in-Ok
returns-in-Ok c = (search (rules, factor-joined), search (rules, joined-next, factor-small))

pub returns-in-Err : goal.returns-in-Err
returns-in-Err c = (search (rules, factor-refused), next-refused _)
