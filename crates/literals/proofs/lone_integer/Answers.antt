use native.Mathlib.Omega.{arith}
use Rattle.literals.proofs.Lone.{lone-read}
use Rattle.literals.proofs.lone_integer.Goals as goal

pub returns-in-55 : goal.returns-in-55
returns-in-55 c =
    lone-read _ _ _ c.peek.ensures (omega arith) (omega arith) c.peek-in-55.ensures c.ends_expression.ensures
