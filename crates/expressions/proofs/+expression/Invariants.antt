-- The measure of each reader: nine times the nesting that is unused, and its level among those that call each other with
-- as much unused.
use Prim.Native.Nat.{◌+◌, ◌-◌, ◌*◌, ◌≤◌}
use mathlib.Core.Path.{◌≡◌}
use lib.ListN.{length}
use Rattle.codes.specs.Words.{nodes, Sized}
use Rattle.operators.specs.Answer.{Fits}
use Rattle.expressions.proofs.Operands.{Terms, Factors}
use Rattle.nodes.specs.Answer.{past}
use Rattle.expressions.proofs.Items.{Items}
use Rattle.expressions.proofs.Steps.{Steps}
use Rattle.rules.specs.Expressions.{structural}
use Rattle.lists.specs.Answer.{owner_of}
use Rattle.rules.specs.Codes.BaseToken as BaseToken
use Rattle.expressions.proofs.+expression.Given as goal

abbrev pub decreases-addition : goal.decreases-addition
decreases-addition l = l.unused * 9 + 8

abbrev pub decreases-advance : goal.decreases-advance
decreases-advance l = l.unused * 9 + 1

abbrev pub decreases-deref_steps : goal.decreases-deref_steps
decreases-deref_steps l = l.unused * 9 + 2

abbrev pub decreases-field : goal.decreases-field
decreases-field l = l.unused * 9 + 1

abbrev pub decreases-group : goal.decreases-group
decreases-group l = l.unused * 9 + 1

abbrev pub decreases-item : goal.decreases-item
decreases-item l = l.unused * 9 + 2

abbrev pub decreases-multiplication : goal.decreases-multiplication
decreases-multiplication l = l.unused * 9 + 7

abbrev pub decreases-next_field : goal.decreases-next_field
decreases-next_field l = l.unused * 9 + 2

abbrev pub decreases-parse_expression : goal.decreases-parse_expression
decreases-parse_expression l = l.unused * 9 + 0

abbrev pub decreases-primary : goal.decreases-primary
decreases-primary l = l.unused * 9 + 4

abbrev pub decreases-reference : goal.decreases-reference
decreases-reference l = l.unused * 9 + 3

abbrev pub decreases-rest_of_fields : goal.decreases-rest_of_fields
decreases-rest_of_fields l = l.unused * 9 + 3

abbrev pub decreases-rest_of_list : goal.decreases-rest_of_list
decreases-rest_of_list l = l.unused * 9 + 3

abbrev pub decreases-singular : goal.decreases-singular
decreases-singular l = l.unused * 9 + 6

abbrev pub decreases-step : goal.decreases-step
decreases-step l = l.unused * 9 + 1

abbrev pub decreases-unary : goal.decreases-unary
decreases-unary l = l.unused * 9 + 5

abbrev pub invariant-addition-loop-right : goal.invariant-addition-loop-right
invariant-addition-loop-right l =
    (length l.node_words ≡ length l.initial.node_words) ×
    Sized l.row.kinds.now l.row.types.now l.node_words l.cursor.0 l.count × Fits l.pending ×
    Terms l.row.kinds.now l.row.types.now l.unused l.initial.cursor.0
    (nodes l.initial.node_words l.initial.count) l.pending l.cursor.0 (nodes l.node_words l.count)

abbrev pub decreases-addition-loop-right : goal.decreases-addition-loop-right
decreases-addition-loop-right l = length l.row.kinds.now - l.cursor.0

abbrev pub invariant-deref_steps-loop : goal.invariant-deref_steps-loop
invariant-deref_steps-loop l =
    (length l.node_words ≡ length l.initial.node_words) ×
    Sized l.row.kinds.now l.row.types.now l.node_words l.cursor.0 l.count × (past l.list ≤ l.count) ×
    Steps l.row.kinds.now l.row.types.now l.unused l.reference.start.0 l.reference.address.depth
    l.reference.address.name.0 l.initial.cursor.0 (nodes l.initial.node_words l.initial.count) l.counter
    l.list l.cursor.0 (nodes l.node_words l.count)

abbrev pub invariant-multiplication-loop-right : goal.invariant-multiplication-loop-right
invariant-multiplication-loop-right l =
    (length l.node_words ≡ length l.initial.node_words) ×
    Sized l.row.kinds.now l.row.types.now l.node_words l.cursor.0 l.count × Fits l.pending ×
    Factors l.row.kinds.now l.row.types.now l.unused l.bare l.initial.cursor.0
    (nodes l.initial.node_words l.initial.count) l.pending l.cursor.0 (nodes l.node_words l.count)

abbrev pub decreases-multiplication-loop-right : goal.decreases-multiplication-loop-right
decreases-multiplication-loop-right l = length l.row.kinds.now - l.cursor.0

abbrev pub invariant-rest_of_fields-loop-turn : goal.invariant-rest_of_fields-loop-turn
invariant-rest_of_fields-loop-turn l =
    (length l.node_words ≡ length l.initial.node_words) ×
    Sized l.row.kinds.now l.row.types.now l.node_words l.cursor.0 l.count ×
    (past l.list.list ≤ l.count) × (l.list.items ≤ l.count) ×
    Items l.row.kinds.now l.row.types.now l.unused (structural l.name.0) BaseToken.BraceRight l.initial.cursor.0
    (nodes l.initial.node_words l.initial.count) l.list l.cursor.0 (nodes l.node_words l.count)

abbrev pub decreases-rest_of_fields-loop-turn : goal.decreases-rest_of_fields-loop-turn
decreases-rest_of_fields-loop-turn l = length l.row.kinds.now - l.cursor.0

abbrev pub invariant-rest_of_list-loop-turn : goal.invariant-rest_of_list-loop-turn
invariant-rest_of_list-loop-turn l =
    (length l.node_words ≡ length l.initial.node_words) ×
    Sized l.row.kinds.now l.row.types.now l.node_words l.cursor.0 l.count ×
    (past l.list.list ≤ l.count) × (l.list.items ≤ l.count) ×
    Items l.row.kinds.now l.row.types.now l.unused (owner_of l.owner) l.closing l.initial.cursor.0
    (nodes l.initial.node_words l.initial.count) l.list l.cursor.0 (nodes l.node_words l.count)

abbrev pub decreases-rest_of_list-loop-turn : goal.decreases-rest_of_list-loop-turn
decreases-rest_of_list-loop-turn l = length l.row.kinds.now - l.cursor.0
