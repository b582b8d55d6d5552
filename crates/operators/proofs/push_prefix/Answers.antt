-- `operators::push_prefix` meets its contract: the two nodes are those of the rule.
use Rattle.operators.proofs.Laws.{prefix-pushed}
use borrow.Author.Rules.{rules}
use Rattle.operators.proofs.push_prefix.Goals as goal

pub returns : goal.returns
returns c = search (rules, prefix-pushed)
