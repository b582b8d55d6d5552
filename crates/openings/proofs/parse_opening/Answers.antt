-- `openings::parse_opening` meets its contract: a law for each return, found among the facts of its path.
use Rattle.openings.proofs.Laws.{primary-opens, with-name, with-builtin, with-ampersand, elements-open}
use Rattle.openings.proofs.Laws.{group-opens, literal-opens, reference-opens}
use borrow.Author.Rules.{rules}
use Rattle.openings.proofs.parse_opening.Goals as goal

pub returns-then-piped : goal.returns-then-piped
returns-then-piped c = (search (rules, reference-opens), search rules)

pub returns-in-53 : goal.returns-in-53
returns-in-53 c = (search (rules, primary-opens, with-name), search rules)

pub returns-in-54 : goal.returns-in-54
returns-in-54 c = (search (rules, primary-opens, with-builtin), search rules)

pub returns-in-10 : goal.returns-in-10
returns-in-10 c = (search (rules, primary-opens, with-ampersand), search rules)

pub returns-in-5 : goal.returns-in-5
returns-in-5 c = search (rules, elements-open)

pub returns-in-1 : goal.returns-in-1
returns-in-1 c = search (rules, group-opens)

pub returns-in_default : goal.returns-in_default
returns-in_default c = search (rules, literal-opens)
