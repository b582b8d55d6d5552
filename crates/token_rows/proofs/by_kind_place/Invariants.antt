use Rattle.std.proofs.Common.{◌*◌, ◌≤◌}
use Rattle.token_rows.proofs.by_kind_place.Given as goal

abbrev pub invariant-loop-kind_place : goal.invariant-loop-kind_place
invariant-loop-kind_place l = l.right ≤ 560 * l.kind_place
