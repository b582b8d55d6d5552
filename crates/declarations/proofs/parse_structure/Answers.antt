-- `declarations::parse_structure` meets its contract: a law for each return, found among the facts of its path.
use Rattle.codes.proofs.Onto.{returned}
use Rattle.declarations.proofs.Laws.{structured-stopped, structured-read}
use Rattle.declarations.proofs.Bounds.{members-slots, members-fits}
use borrow.Author.Rules.{rules}
use Rattle.declarations.proofs.parse_structure.Goals as goal

pub returns-in_err-cursor : goal.returns-in_err-cursor
returns-in_err-cursor c = returned c.from_residual.ensures.1 (search (rules, structured-stopped, c.in_err-cursor.was))

pub push_structure-requires : goal.push_structure-requires
push_structure-requires c = (
  search (rules, members-slots, c.in_ok-cursor.was),
  search rules,
  search (rules, members-fits, c.in_ok-cursor.was),
)

pub returns : goal.returns
returns c = search (rules, structured-read, c.in_ok-cursor.was)
