-- `declarations::push_opaque_struct` meets its contract: a law for each return, found among the facts of its path.
use Rattle.codes.proofs.Onto.{returned}
use Rattle.declarations.proofs.Laws.{opaque-stopped, opaque-pushed}
use Rattle.declarations.proofs.Bounds.{none-fits}
use Rattle.nodes.proofs.Bounds.{end-slots, end-root}
use borrow.Author.Rules.{rules}
use Rattle.declarations.proofs.push_opaque_struct.Goals as goal

pub push_end_of_list-requires : goal.push_end_of_list-requires
push_end_of_list-requires c = (search rules, search (rules, none-fits))

pub returns-in_err-cursor : goal.returns-in_err-cursor
returns-in_err-cursor c = returned c.from_residual.ensures.1 (search (rules, opaque-stopped, c.in_err-cursor.was))

pub push_structure-requires : goal.push_structure-requires
push_structure-requires c = (
  search (rules, end-slots, c.in_ok-cursor.was),
  search rules,
  search (rules, end-root, none-fits, c.in_ok-cursor.was),
)

pub returns : goal.returns
returns c = search (rules, opaque-pushed, c.in_ok-cursor.was)
