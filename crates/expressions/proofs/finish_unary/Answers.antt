-- `expressions::finish_unary` meets its contract: a law for each return, found among the facts of its path.
use Rattle.expressions.proofs.Laws.{length-ends, prefix-ends, primary-ends, complement, negative}
use borrow.Author.Rules.{rules}
use Rattle.expressions.proofs.finish_unary.Goals as goal

pub returns-in-9 : goal.returns-in-9
returns-in-9 c = search (rules, length-ends)

pub returns-in-12 : goal.returns-in-12
returns-in-12 c = search (rules, prefix-ends, complement)

pub returns-in-15 : goal.returns-in-15
returns-in-15 c = search (rules, prefix-ends, negative)

pub returns-in_default : goal.returns-in_default
returns-in_default c = search (rules, primary-ends)
