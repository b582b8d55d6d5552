-- `types::enclose` meets its contract: a law for each return, found among the facts of its path.
use Rattle.codes.proofs.Onto.{returned}
use Rattle.nodes.proofs.Bounds.{push-slots}
use Rattle.types.proofs.Bounds.{enclosed-at}
use Rattle.types.proofs.Laws.{enclose-full, enclose-read}
use borrow.Author.Rules.{rules}
use Rattle.types.proofs.enclose.Goals as goal

pub returns-in_err-cursor : goal.returns-in_err-cursor
returns-in_err-cursor c = returned c.from_residual.ensures.1 (search (rules, enclose-full, c.in_err-cursor.was))

pub finish_inner_type-requires : goal.finish_inner_type-requires
finish_inner_type-requires c = (
  search (rules, push-slots, c.in_ok-cursor.was),
  search (rules, enclosed-at, c.in_ok-cursor.was),
  search rules,
)

pub returns : goal.returns
returns c = search (rules, enclose-read, c.in_ok-cursor.was)
