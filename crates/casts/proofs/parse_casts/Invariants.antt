use Prim.Native.Nat.{◌-◌, ◌≤◌}
use lib.ListN.{length}
use Rattle.rules.specs.Codes.Limit as Limit
use Rattle.rules.specs.Words.{words}
use Rattle.rules.specs.Types.{type}
use Rattle.codes.specs.Answer.{row}
use Rattle.codes.specs.Words.{Sized, nodes}
use Rattle.casts.proofs.Laws.{Casts}
use Rattle.casts.proofs.parse_casts.Given as goal

abbrev pub invariant-loop-cursor : goal.invariant-loop-cursor
invariant-loop-cursor l =
    Sized l.row.kinds.now l.row.types.now l.node_words l.whole.cursor.0 l.whole.count ×
    (l.whole.value.0 ≤ Limit.Load) ×
    Casts l.row.kinds.now l.row.types.now
    (type words (row l.row.kinds.now l.row.types.now) l.unused) l.initial.whole.value.0
    l.initial.whole.cursor.0 (nodes l.initial.node_words l.initial.whole.count) l.whole.value.0
    l.whole.cursor.0 (nodes l.node_words l.whole.count)

abbrev pub decreases-loop-cursor : goal.decreases-loop-cursor
decreases-loop-cursor l = length l.row.kinds.now - l.whole.cursor.0
