-- `kinds::join_types` meets its contract: the largest value types before the present one are known.
use Rattle.std.proofs.Common.{take, ◌++◌}
use Rattle.kinds.specs.Above.{Alike}
use Rattle.kinds.proofs.join_types.Given as goal

abbrev pub invariant-loop-lane : goal.invariant-loop-lane
invariant-loop-lane l = Alike l.most (l.initial.most ++ take l.lane l.types)
