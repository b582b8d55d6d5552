-- `nodes::push` meets its contract: a law for each return, found among the facts of its path.
use Rattle.nodes.proofs.Laws.{appended, full}
use borrow.Author.Rules.{rules}
use Rattle.nodes.proofs.push.Goals as goal

pub returns-then-at-node_words : goal.returns-then-at-node_words
returns-then-at-node_words c = search (rules, appended)

pub returns-else-at-node_words : goal.returns-else-at-node_words
returns-else-at-node_words c = search (rules, full)
