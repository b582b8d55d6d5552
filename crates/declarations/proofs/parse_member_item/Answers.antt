-- `declarations::parse_member_item` meets its contract: a law for each return, found among the facts of its path.
use Rattle.codes.proofs.Onto.{returned}
use Rattle.declarations.proofs.Laws.{members-end, member-item-stopped, member-item-read}
use Rattle.declarations.proofs.Bounds.{past-member, member-slots, member-kept}
use borrow.Author.Rules.{rules}
use Rattle.declarations.proofs.parse_member_item.Goals as goal

pub returns-in-Some : goal.returns-in-Some
returns-in-Some c = search (rules, members-end)

pub finish_member-requires : goal.finish_member-requires
finish_member-requires c = (
  search (rules, past-member, c.in_ok-cursor.was),
  search (rules, member-slots, c.in_ok-cursor.was),
  search (rules, member-kept, c.in_ok-cursor.was),
)

pub returns-in_err-cursor : goal.returns-in_err-cursor
returns-in_err-cursor c = returned c.from_residual.ensures.1 (search (rules, member-item-stopped, c.in_err-cursor.was))

pub returns : goal.returns
returns c = search (rules, member-item-read, c.in_ok-cursor.was)
