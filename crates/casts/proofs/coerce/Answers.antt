-- `casts::coerce` meets its contract: a law for each return, found among the facts of its path.
use Rattle.codes.proofs.Onto.{returned}
use Rattle.casts.proofs.Bounds.{type-slots}
use Rattle.casts.proofs.Laws.{cast-stopped, cast-read}
use borrow.Author.Rules.{rules}
use Rattle.casts.proofs.coerce.Goals as goal

pub returns-in_err-cursor : goal.returns-in_err-cursor
returns-in_err-cursor c = returned c.from_residual.ensures.1 (search (rules, cast-stopped, c.in_err-cursor.was))

pub push_two-requires : goal.push_two-requires
push_two-requires c = (search (rules, type-slots, c.in_ok-cursor.was), search rules, search rules)

pub returns : goal.returns
returns c = search (rules, cast-read, c.in_ok-cursor.was)
