-- `declarations::parse_typed_name` meets its contract: a law for each return, found among the facts of its path.
use Rattle.codes.proofs.Onto.{returned}
use Rattle.declarations.proofs.Laws.{typed-unnamed, typed-read}
use Rattle.declarations.proofs.Bounds.{name-sized}
use borrow.Author.Rules.{rules}
use Rattle.declarations.proofs.parse_typed_name.Goals as goal

pub returns-in_err-cursor : goal.returns-in_err-cursor
returns-in_err-cursor c = returned c.from_residual.ensures.1 (search (rules, typed-unnamed, c.in_err-cursor.was))

pub parse_type-requires : goal.parse_type-requires
parse_type-requires c = search (rules, name-sized, c.in_ok-cursor.was)

pub returns : goal.returns
returns c = search (rules, typed-read, c.in_ok-cursor.was)
