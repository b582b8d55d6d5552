-- `nodes::push_two` meets its contract: a law for each return, found among the facts of its path.
use Rattle.codes.proofs.Onto.{returned}
use Rattle.nodes.proofs.Laws.{two-refused, two-read}
use Rattle.nodes.proofs.Bounds.{push-slots}
use borrow.Author.Rules.{rules}
use Rattle.nodes.proofs.push_two.Goals as goal

pub returns-in_err-cursor : goal.returns-in_err-cursor
returns-in_err-cursor c = returned c.from_residual.ensures.1 (search (rules, two-refused, c.in_err-cursor.was))

pub push-requires-2 : goal.push-requires-2
push-requires-2 c = (search (rules, push-slots, c.in_ok-cursor.was), search rules)

pub returns : goal.returns
returns c = search (rules, two-read, c.in_ok-cursor.was)
