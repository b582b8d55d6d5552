-- `operators::push_pending` meets its contract: a law for each return, found among the facts of its path.
use Rattle.operators.proofs.Laws.{first-operand, operand-joined}
use borrow.Author.Rules.{rules}
use Rattle.operators.proofs.push_pending.Goals as goal

pub returns-then-pending-eq-NO_OPERATOR : goal.returns-then-pending-eq-NO_OPERATOR
returns-then-pending-eq-NO_OPERATOR c = search (rules, first-operand)

pub returns-else-pending-eq-NO_OPERATOR : goal.returns-else-pending-eq-NO_OPERATOR
returns-else-pending-eq-NO_OPERATOR c = search (rules, operand-joined)
