-- `types::short_type` meets its contract: a law for each return, found among the facts of its path.
use Rattle.types.proofs.Laws.{short-keyword, short-name, not_short}
use borrow.Author.Rules.{rules}
use Rattle.types.proofs.short_type.Goals as goal

pub returns-in-52 : goal.returns-in-52
returns-in-52 c = search (rules, short-keyword)

pub returns-in-53 : goal.returns-in-53
returns-in-53 c = search (rules, short-name)

pub returns-in_default : goal.returns-in_default
returns-in_default c = search (rules, not_short)
