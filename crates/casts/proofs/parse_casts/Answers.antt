-- `casts::parse_casts` meets its contract: a law for each return, and what its loop keeps.
use Rattle.codes.proofs.Onto.{returned}
use Rattle.tokens.proofs.Bounds.{past-found}
use Rattle.casts.proofs.Bounds.{after-as, as-root, as-less}
use Rattle.casts.proofs.Laws.{casts-first, casts-last, casts-stopped, casts-again}
use borrow.Author.Rules.{rules}
use Rattle.casts.proofs.parse_casts.Goals as goal

pub loop-cursor-init : goal.loop-cursor-init
loop-cursor-init c = (search rules, search rules, casts-first _ _ _ _ _ _)

pub coerce-requires : goal.coerce-requires
coerce-requires c = (search (rules, past-found), search rules)

pub returns-in_err-whole : goal.returns-in_err-whole
returns-in_err-whole c = returned c.from_residual.ensures.1 (search (rules, casts-stopped, c.in_err-whole.was))

pub loop-cursor-smaller : goal.loop-cursor-smaller
loop-cursor-smaller c = search (rules, as-less, c.in_ok-whole.was)

pub loop-cursor-preserved : goal.loop-cursor-preserved
loop-cursor-preserved c = (
  search (rules, after-as, c.in_ok-whole.was),
  search (rules, as-root, c.in_ok-whole.was),
  search (rules, casts-again, c.in_ok-whole.was),
)

pub returns : goal.returns
returns c = search (rules, casts-last)
