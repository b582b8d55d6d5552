-- `casts::finish_singular` meets its contract: a law for each return, found among the facts of its path.
use Rattle.codes.proofs.Onto.{returned}
use Rattle.casts.proofs.Bounds.{after-bit-cast, bit-cast-root}
use Rattle.casts.proofs.Laws.{singular-stopped, singular-read, singular-alone}
use borrow.Author.Rules.{rules}
use Rattle.casts.proofs.finish_singular.Goals as goal

pub returns-in_err-node : goal.returns-in_err-node
returns-in_err-node c = returned c.from_residual.ensures.1 (search (rules, singular-stopped, c.in_err-node.was))

pub returns-then-peek-ne-As : goal.returns-then-peek-ne-As
returns-then-peek-ne-As c = search (rules, singular-alone, c.in_ok-node.was)

pub parse_casts-requires : goal.parse_casts-requires
parse_casts-requires c = (
  search (rules, after-bit-cast, c.in_ok-node.was),
  search (rules, bit-cast-root, c.in_ok-node.was),
)

pub returns : goal.returns
returns c = search (rules, singular-read, c.in_ok-node.was)
