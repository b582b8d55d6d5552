-- `declarations::parse_member_type` meets its contract: a law for each return, found among the facts of its path.
use Rattle.codes.proofs.Onto.{returned}
use Rattle.declarations.proofs.Laws.{member-short, member-untyped, member-typed}
use Rattle.declarations.proofs.Bounds.{type-slots}
use Rattle.types.proofs.Bounds.{short-fits}
use borrow.Author.Rules.{rules}
use Rattle.declarations.proofs.parse_member_type.Goals as goal

pub push_two-requires : goal.push_two-requires
push_two-requires c = (search rules, search (rules, short-fits), search rules)

pub returns : goal.returns
returns c = search (rules, member-short)

pub returns-in_err-cursor : goal.returns-in_err-cursor
returns-in_err-cursor c = returned c.from_residual.ensures.1 (search (rules, member-untyped, c.in_err-cursor.was))

pub push-requires : goal.push-requires
push-requires c = (search (rules, type-slots, c.in_ok-cursor.was), search rules)

pub returns-2 : goal.returns-2
returns-2 c = search (rules, member-typed, c.in_ok-cursor.was)
