-- `declarations::parse_member` meets its contract: a law for each return, found among the facts of its path.
use Rattle.codes.proofs.Onto.{returned}
use Rattle.declarations.proofs.Laws.{member-named, member-unnamed}
use Rattle.declarations.proofs.Bounds.{name-sized}
use borrow.Author.Rules.{rules}
use Rattle.declarations.proofs.parse_member.Goals as goal

pub returns-in_err-cursor : goal.returns-in_err-cursor
returns-in_err-cursor c = returned c.from_residual.ensures.1 (search (rules, member-unnamed, c.in_err-cursor.was))

pub parse_member_type-requires : goal.parse_member_type-requires
parse_member_type-requires c = (search (rules, name-sized, c.in_ok-cursor.was), search rules)

pub returns : goal.returns
returns c = search (rules, member-named, c.in_ok-cursor.was)
