-- `penne_nodes::answer::parse` meets its contract: by the entry.
use Rattle.penne_nodes.proofs.Laws.{type-asked, expression-entry}
use borrow.Author.Rules.{rules}
use Rattle.penne_nodes.proofs.answer.parse.Goals as goal

pub returns-in-Expression : goal.returns-in-Expression
returns-in-Expression c = search (rules, expression-entry)

pub returns-in-Type : goal.returns-in-Type
returns-in-Type c = search (rules, type-asked)
