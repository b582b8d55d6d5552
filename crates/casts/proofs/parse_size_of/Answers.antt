-- `casts::parse_size_of` meets its contract: a law for each return, found among the facts of its path.
use Rattle.codes.proofs.Onto.{returned}
use Rattle.tokens.proofs.Bounds.{past-here}
use Rattle.casts.proofs.Bounds.{type_at, type-slots}
use Rattle.casts.proofs.Laws.{size-stopped, size-read}
use borrow.Author.Rules.{rules}
use Rattle.casts.proofs.parse_size_of.Goals as goal

pub returns-in_err-queried : goal.returns-in_err-queried
returns-in_err-queried c = returned c.from_residual.ensures.1 (search (rules, size-stopped, c.in_err-queried.was))

pub push_closed-requires : goal.push_closed-requires
push_closed-requires c = (
  search (rules, type_at, past-here, c.in_ok-queried.was),
  search (rules, type-slots, past-here, c.in_ok-queried.was),
)

pub returns : goal.returns
returns c = search (rules, size-read, c.in_ok-queried.was)
