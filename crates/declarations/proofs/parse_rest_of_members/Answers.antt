-- `declarations::parse_rest_of_members` meets its contract: a law for each return, and what its loop keeps.
use Rattle.codes.proofs.Onto.{returned}
use Rattle.declarations.proofs.Bounds.{none-fits}
use Rattle.declarations.proofs.Members.{first_member, list-refused, list_read, turn-sized, turn-fits}
use Rattle.declarations.proofs.Members.{turn-less, next-member, list-slots, list-fits}
use borrow.Author.Rules.{rules}
use Rattle.declarations.proofs.parse_rest_of_members.Goals as goal

pub loop-turn-init : goal.loop-turn-init
loop-turn-init c = (search rules, search (rules, none-fits), search (rules, first_member))

pub returns-in_err-turn : goal.returns-in_err-turn
returns-in_err-turn c = returned c.from_residual.ensures.1 (search (rules, list-refused, c.in_err-turn.was))

pub loop-turn-smaller : goal.loop-turn-smaller
loop-turn-smaller c = search (rules, turn-less, c.in_ok-turn.was)

pub loop-turn-preserved : goal.loop-turn-preserved
loop-turn-preserved c = (
  search (rules, turn-sized, c.in_ok-turn.was),
  search (rules, turn-fits, c.in_ok-turn.was),
  search (rules, next-member, c.in_ok-turn.was),
)

pub push_end_of_list-requires : goal.push_end_of_list-requires
push_end_of_list-requires c = (
  search (rules, list-slots, c.in_ok-turn.was),
  search (rules, list-fits, c.in_ok-turn.was),
)

pub returns-in-Last : goal.returns-in-Last
returns-in-Last c = search (rules, list_read, c.in_ok-turn.was)
