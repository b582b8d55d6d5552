-- `kinds::join_types` meets its contract: the largest value types before the present one are known.
use Rattle.std.proofs.Common.{rules}
use Rattle.kinds.proofs.Laws.{next-type}
use Rattle.kinds.proofs.join_types.Goals as goal

pub loop-lane-preserved : goal.loop-lane-preserved
loop-lane-preserved c = search (rules, next-type)
