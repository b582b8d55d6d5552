-- `declarations::parse_colon` meets its contract: a law for each return, found among the facts of its path.
use Rattle.declarations.proofs.Laws.{colon-found, colon-missing}
use borrow.Author.Rules.{rules}
use Rattle.declarations.proofs.parse_colon.Goals as goal

pub returns-in_default : goal.returns-in_default
returns-in_default c = search (rules, colon-missing)

pub returns : goal.returns
returns c = search (rules, colon-found)
