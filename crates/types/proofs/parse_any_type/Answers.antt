-- `types::parse_any_type` meets its contract: a law for each return, found among the facts of its path.
use Rattle.codes.proofs.Onto.{returned}
use Rattle.types.proofs.Bounds.{inner-slots, inner-load}
use Rattle.types.proofs.Laws.{type-stopped, type-single, type-read}
use borrow.Author.Rules.{rules}
use Rattle.types.proofs.parse_any_type.Goals as goal

pub returns-in_err-inner : goal.returns-in_err-inner
returns-in_err-inner c = returned c.from_residual.ensures.1 (search (rules, type-stopped, c.in_err-inner.was))

pub push_span-requires : goal.push_span-requires
push_span-requires c = (
  search (rules, inner-slots, c.in_ok-inner.was),
  search (rules, inner-load, c.in_ok-inner.was),
  search rules,
)

pub returns-then-start-end : goal.returns-then-start-end
returns-then-start-end c = search (rules, type-read, c.in_ok-inner.was)

pub returns-else-start-end : goal.returns-else-start-end
returns-else-start-end c = search (rules, type-single, c.in_ok-inner.was)
