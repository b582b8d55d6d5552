use lib.ListN.{length}
use Prim.Native.Nat.{◌≤◌, ◌-◌}
use Rattle.codes.specs.Words.{Sized, nodes}
use Rattle.nodes.specs.Answer.{past}
use Rattle.declarations.proofs.Members.{Members}
use Rattle.declarations.proofs.parse_rest_of_members.Given as goal

abbrev pub invariant-loop-turn : goal.invariant-loop-turn
invariant-loop-turn l =
    Sized l.row.kinds.now l.row.types.now l.node_words l.cursor.0 l.count ×
    (past l.list ≤ l.count) ×
    Members l.row.kinds.now l.row.types.now l.unused l.initial.cursor.0
    (nodes l.initial.node_words l.initial.count) l.list l.cursor.0
    (nodes l.node_words l.count)

abbrev pub decreases-loop-turn : goal.decreases-loop-turn
decreases-loop-turn l = length l.row.kinds.now - l.cursor.0
