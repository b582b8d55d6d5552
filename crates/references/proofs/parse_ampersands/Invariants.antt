use Prim.Native.Nat.{◌≤◌, ◌<◌}
use lib.ListN.{length}
use Rattle.std.specs.Prelude.{Err}
use Rattle.codes.specs.Answer.{refusal}
use Rattle.codes.specs.Words.{Quiet}
use Rattle.rules.specs.Codes.Limit as Limits
use Rattle.rules.specs.Codes.Refusal as Number
use Rattle.references.specs.Answer.{depths, counting}
use Rattle.references.proofs.Laws.{Counting}
use Rattle.references.proofs.parse_ampersands.Given as goal

-- as many ampersands as are stored, or one too many
abbrev pub invariant-loop-depth : goal.invariant-loop-depth
invariant-loop-depth l =
    (l.depth ≤ Limits.AddressDepth →
    (l.cursor.0 ≤ length l.row.kinds.now) ×
    Counting l.row.kinds.now l.start.0 l.initial.cursor.0 l.count l.depth l.cursor.0) ×
    (Limits.AddressDepth < l.depth →
    Quiet depths (counting l.start.0) l.row.kinds.now l.initial.cursor.0 l.count
    (Err (refusal Number.MaximumParseDepthExceeded l.start.0 l.cursor.0 l.cursor.0 l.count)))
