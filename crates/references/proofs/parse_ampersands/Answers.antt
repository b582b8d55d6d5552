-- `references::parse_ampersands` meets its contract: a law for each return, and what its loop keeps.
use mathlib.Core.Path.{refl}
use native.Mathlib.Omega.{arith}
use Rattle.references.proofs.Laws.{counting-starts, counted, counted-over, counts-on}
use Rattle.references.proofs.parse_ampersands.Goals as goal

pub loop-depth-init : goal.loop-depth-init
loop-depth-init c = (λ _. (omega arith, counting-starts _ _ _ _), λ h. absurd (omega arith))

pub consume_optional-requires : goal.consume_optional-requires
consume_optional-requires c = let i = c.loop-depth.invariant.0 c.loop-depth-test.true in omega arith

pub returns-in_default : goal.returns-in_default
returns-in_default c =
    let i = c.loop-depth.invariant.0 c.loop-depth-test.true in
    (counted i.1 c.consume_optional.ensures c.in_default.is, omega arith)

pub loop-depth-preserved : goal.loop-depth-preserved
loop-depth-preserved c =
    let i = c.loop-depth.invariant.0 c.loop-depth-test.true in
    let g = c.consume_optional.ensures in
    (counts-on i.1 g c.in-Some.is, λ h. counted-over i.1 g c.in-Some.is h refl)

pub returns : goal.returns
returns c = rw c.exceeded.ensures (c.loop-depth.invariant.1 c.loop-depth-test.false, tt)
