use Prim.Native.Nat.{◌+◌, ◌-◌, ◌≤◌}
use lib.ListN.{length}
use Rattle.rules.specs.Codes.Limit as Limits
use Rattle.literals.proofs.Laws.{Strung}
use Rattle.literals.proofs.end_of_strings.Given as goal

abbrev pub invariant-loop-cursor : goal.invariant-loop-cursor
invariant-loop-cursor l = (l.cursor.0 ≤ Limits.Tokens + 1) × Strung l.row.kinds.now l.initial.cursor.0 l.cursor.0

abbrev pub decreases-loop-cursor : goal.decreases-loop-cursor
decreases-loop-cursor l = length l.row.kinds.now - l.cursor.0
