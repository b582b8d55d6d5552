-- `openings::after_name` meets its contract: a law for each return, found among the facts of its path.
use Rattle.openings.proofs.Laws.{call_opens, fields_open, steps-open, name-opens}
use borrow.Author.Rules.{rules}
use Rattle.openings.proofs.after_name.Goals as goal

pub returns-in-1 : goal.returns-in-1
returns-in-1 c = search (rules, call_opens)

pub returns-in-3 : goal.returns-in-3
returns-in-3 c = search (rules, fields_open)

pub returns-in-5 : goal.returns-in-5
returns-in-5 c = search (rules, steps-open)

pub returns-in_default : goal.returns-in_default
returns-in_default c = search (rules, name-opens)
