-- `expressions::after_prefix` meets its contract: a law for each return, found among the facts of its path.
use Rattle.expressions.proofs.Laws.{prefix-next, prefix-none, pipe, exclamation, minus}
use borrow.Author.Rules.{rules}
use Rattle.expressions.proofs.after_prefix.Goals as goal

pub returns-in-9 : goal.returns-in-9
returns-in-9 c = search (rules, prefix-next, pipe)

pub returns-in-12 : goal.returns-in-12
returns-in-12 c = search (rules, prefix-next, exclamation)

pub returns-in-15 : goal.returns-in-15
returns-in-15 c = search (rules, prefix-next, minus)

pub returns-in_default : goal.returns-in_default
returns-in_default c = search (rules, prefix-none)
