-- `declarations::parse_name` meets its contract: a law for each return, found among the facts of its path.
use Rattle.types.proofs.Sizes.{returned-quiet}
use Rattle.declarations.proofs.Laws.{unnamed, named-read}
use Rattle.declarations.proofs.Bounds.{name-past}
use borrow.Author.Rules.{rules}
use Rattle.declarations.proofs.parse_name.Goals as goal

pub returns-in_err-cursor : goal.returns-in_err-cursor
returns-in_err-cursor c = returned-quiet c.from_residual.ensures.1 (search (rules, unnamed, c.in_err-cursor.was))

pub parse_colon-requires : goal.parse_colon-requires
parse_colon-requires c = search (rules, name-past, c.in_ok-cursor.was)

pub returns : goal.returns
returns c = search (rules, named-read, c.in_ok-cursor.was)
