-- `lists::parse_separator` meets its contract: a law for each return, found among the facts of its path.
use Rattle.lists.proofs.Laws.{comma-read, no-comma, no-comma-by}
use borrow.Author.Rules.{rules}
use Rattle.lists.proofs.parse_separator.Goals as goal

pub returns-in-Some : goal.returns-in-Some
returns-in-Some c = search (rules, comma-read)

pub returns-in-2 : goal.returns-in-2
returns-in-2 c = search (rules, no-comma-by)

pub returns-in-6 : goal.returns-in-6
returns-in-6 c = search (rules, no-comma-by)

pub returns-in_default-closing : goal.returns-in_default-closing
returns-in_default-closing c = search (rules, no-comma)
