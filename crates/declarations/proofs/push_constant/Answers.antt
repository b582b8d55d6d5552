-- `declarations::push_constant` meets its contract: a law for each return, found among the facts of its path.
use Rattle.codes.proofs.Onto.{returned}
use Rattle.declarations.proofs.Laws.{constant-refused, constant-pushed}
use Rattle.nodes.proofs.Bounds.{push-slots}
use borrow.Author.Rules.{rules}
use Rattle.declarations.proofs.push_constant.Goals as goal

pub returns-in_err-cursor : goal.returns-in_err-cursor
returns-in_err-cursor c = returned c.from_residual.ensures.1 (search (rules, constant-refused, c.in_err-cursor.was))

pub push_declaration-requires : goal.push_declaration-requires
push_declaration-requires c = search (rules, push-slots, c.in_ok-cursor.was)

pub returns : goal.returns
returns c = search (rules, constant-pushed, c.in_ok-cursor.was)
