-- `operators::push_binary` meets its contract: a law for each return, found among the facts of its path.
use Rattle.codes.proofs.Onto.{returned}
use Rattle.nodes.proofs.Bounds.{push-slots}
use Rattle.operators.proofs.Laws.{item-stopped, binary-pushed}
use borrow.Author.Rules.{rules}
use Rattle.operators.proofs.push_binary.Goals as goal

pub returns-in_err-cursor : goal.returns-in_err-cursor
returns-in_err-cursor c = returned c.from_residual.ensures.1 (search (rules, item-stopped, c.in_err-cursor.was))

pub push_two-requires : goal.push_two-requires
push_two-requires c = (search (rules, push-slots, c.in_ok-cursor.was), search rules, search rules)

pub returns : goal.returns
returns c = search (rules, binary-pushed, c.in_ok-cursor.was)
