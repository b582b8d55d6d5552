use Rattle.std.proofs.Common.{◌*◌, ◌≤◌}
use Rattle.token_rows.proofs.by_type_place.Given as goal

abbrev pub invariant-loop-type_place : goal.invariant-loop-type_place
invariant-loop-type_place l = l.right ≤ 14 * l.type_place
