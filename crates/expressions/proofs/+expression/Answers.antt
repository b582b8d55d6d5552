-- The readers of expressions meet their contracts: a law for each return, found among the facts of its path.
use mathlib.Core.Path.{refl}
use native.Mathlib.Omega.{arith}
use borrow.Author.Rules.{rules}
use Rattle.codes.proofs.Onto.{returned}
use Rattle.nodes.proofs.Bounds.{slots}
use Rattle.tokens.proofs.Bounds.{past-found, past-token}
use Rattle.expressions.proofs.Bounds.{past-term, term-slots, term_fits, past-factor, factor-slots, factor-fits}
use Rattle.expressions.proofs.Bounds.{past-expression, expression-slots, expression-kept}
use Rattle.expressions.proofs.Bounds.{past-name, colon-found, list-sized, fields-sized, reference-sized, group-sized}
use Rattle.expressions.proofs.Bounds.{name-slots, owner-fits, fields_fit, after-deref, deref-fits}
use Rattle.expressions.proofs.Bounds.{past-cast, cast-fits, after-cast-unary, cast-unary-fits, advance-found, size-inside}
use Rattle.expressions.proofs.Bounds.{operand-sized, past-operand, operand-slots}
use Rattle.expressions.proofs.Operands.{first-term, sum-stopped, sum-refused, sum-read, sum-sized, sum_less, next_fits}
use Rattle.expressions.proofs.Operands.{next-term, first-factor, product-stopped, product-bare, product-refused}
use Rattle.expressions.proofs.Operands.{product-read, product-sized, product-less, next-factor}
use Rattle.expressions.proofs.Laws.{too-deep, expression-lone, expression-read, group-refused, group-read}
use Rattle.expressions.proofs.Laws.{advance-none, advance-refused, advance-read, item-none, item-refused, item-read}
use Rattle.expressions.proofs.Laws.{field-item, field-unnamed, field-short, field-refused, field-read, primary-refused}
use Rattle.expressions.proofs.Laws.{list-opened, fields-opened, reference-opened, name-opened, group-opened}
use Rattle.expressions.proofs.Laws.{literal-opened, reference-refused, reference-alone, reference-advanced}
use Rattle.expressions.proofs.Laws.{singular-bare, singular-refused, singular-read, size-read, decimal-read}
use Rattle.expressions.proofs.Laws.{unary-plain, unary-refused, unary_read}
use Rattle.expressions.proofs.Items.{first-item, none-fits, list-refused, list_read, turn-sized, turn-fits, turn-counts}
use Rattle.expressions.proofs.Items.{turn-less, next-item, list-slots, list-fits, list-load}
use Rattle.expressions.proofs.Steps.{index-refused, element-refused, element-listed, member-refused, member-listed}
use Rattle.expressions.proofs.Steps.{step-none, more-sized, more-fits, last-slots, last_fits, first_step}
use Rattle.expressions.proofs.Steps.{steps-exceeded, steps-refused, steps-read, next-step}
use Rattle.expressions.proofs.+expression.Goals.{step-in-5+in_ok-index-in-5+in_ok-longer-in-5}
use Rattle.expressions.proofs.+expression.Goals.{step-in-21+in_ok-longer-in-21}
use Rattle.expressions.proofs.+expression.Goals as goal

pub addition-loop-right-init : goal.addition-loop-right-init
addition-loop-right-init t c = (refl, search rules, search rules, search (rules, first-term))

pub addition-returns-in_err-right : goal.addition-returns-in_err-right
addition-returns-in_err-right t c = returned c.from_residual.ensures.1 (search (rules, sum-stopped, c.in_err-right.was))

pub addition-join_term-requires : goal.addition-join_term-requires
addition-join_term-requires t c = (
  search (rules, term-slots, c.in_ok-right.was),
  search (rules, past-term, c.in_ok-right.was),
  search (rules, term_fits, c.in_ok-right.was),
  search rules,
)

pub addition-returns-in-Last : goal.addition-returns-in-Last
addition-returns-in-Last t c = search (rules, sum-read, c.in_ok-right.was)

pub addition-returns-in-Refused : goal.addition-returns-in-Refused
addition-returns-in-Refused t c = search (rules, sum-refused, c.in_ok-right.was)

pub addition-loop-right-smaller : goal.addition-loop-right-smaller
addition-loop-right-smaller t c = search (rules, sum_less, c.in_ok-right.was)

pub addition-loop-right-preserved : goal.addition-loop-right-preserved
addition-loop-right-preserved t c = (
  search rules,
  search (rules, sum-sized, c.in_ok-right.was),
  search (rules, next_fits),
  search (rules, next-term, c.in_ok-right.was),
)

pub multiplication-loop-right-init : goal.multiplication-loop-right-init
multiplication-loop-right-init t c = (refl, search rules, search rules, search (rules, first-factor))

pub multiplication-returns-in_err-right : goal.multiplication-returns-in_err-right
multiplication-returns-in_err-right t c = returned c.from_residual.ensures.1 (search (rules, product-stopped, c.in_err-right.was))

pub multiplication-returns-then-bare : goal.multiplication-returns-then-bare
multiplication-returns-then-bare t c = search (rules, product-bare, c.in_ok-right.was)

pub multiplication-join_factor-requires : goal.multiplication-join_factor-requires
multiplication-join_factor-requires t c = (
  search (rules, factor-slots, c.in_ok-right.was),
  search (rules, past-factor, c.in_ok-right.was),
  search (rules, factor-fits, c.in_ok-right.was),
  search rules,
)

pub multiplication-returns-in-Last : goal.multiplication-returns-in-Last
multiplication-returns-in-Last t c = search (rules, product-read, c.in_ok-right.was)

pub multiplication-returns-in-Refused : goal.multiplication-returns-in-Refused
multiplication-returns-in-Refused t c = search (rules, product-refused, c.in_ok-right.was)

pub multiplication-loop-right-smaller : goal.multiplication-loop-right-smaller
multiplication-loop-right-smaller t c = search (rules, product-less, c.in_ok-right.was)

pub multiplication-loop-right-preserved : goal.multiplication-loop-right-preserved
multiplication-loop-right-preserved t c = (
  search rules,
  search (rules, product-sized, c.in_ok-right.was),
  search (rules, next_fits),
  search (rules, next-factor, c.in_ok-right.was),
)

pub advance-returns-in_default : goal.advance-returns-in_default
advance-returns-in_default t c = search (rules, advance-none)

pub advance-parse_expression-requires : goal.advance-parse_expression-requires
advance-parse_expression-requires t c = (search rules, search (rules, past-found))

pub advance-returns-in_err-offset : goal.advance-returns-in_err-offset
advance-returns-in_err-offset t c = returned c.from_residual.ensures.1 (search (rules, advance-refused, c.in_err-offset.was))

pub advance-push_binary-requires : goal.advance-push_binary-requires
advance-push_binary-requires t c = (
  search (rules, advance-found, c.in_ok-offset.was),
  record { op = omega arith; left = search rules; at = search rules },
)

pub advance-returns : goal.advance-returns
advance-returns t c = search (rules, advance-read, c.in_ok-offset.was)

pub deref_steps-loop-init : goal.deref_steps-loop-init
deref_steps-loop-init t c = (refl, search rules, search (rules, none-fits), search (rules, first_step))

pub deref_steps-returns-in_err-turn : goal.deref_steps-returns-in_err-turn
deref_steps-returns-in_err-turn t c = returned c.from_residual.ensures.1 (search (rules, steps-refused, c.in_err-turn.was))

pub deref_steps-push_deref-requires : goal.deref_steps-push_deref-requires
deref_steps-push_deref-requires t c = (
  search (rules, last-slots, c.in_ok-turn.was),
  search (rules, last_fits, c.in_ok-turn.was),
)

pub deref_steps-returns-in-Last : goal.deref_steps-returns-in-Last
deref_steps-returns-in-Last t c = search (rules, steps-read, c.in_ok-turn.was)

pub deref_steps-loop-preserved : goal.deref_steps-loop-preserved
deref_steps-loop-preserved t c = (
  search rules,
  search (rules, more-sized, c.in_ok-turn.was),
  search (rules, more-fits, c.in_ok-turn.was),
  search (rules, next-step, c.in_ok-turn.was),
)

pub deref_steps-returns : goal.deref_steps-returns
deref_steps-returns t c = search (rules, steps-exceeded)

pub field-returns-in_err-cursor : goal.field-returns-in_err-cursor
field-returns-in_err-cursor t c = returned c.from_residual.ensures.1 (search (rules, field-unnamed, c.in_err-cursor.was))

pub field-consume_optional-requires : goal.field-consume_optional-requires
field-consume_optional-requires t c = search (rules, past-name, c.in_ok-cursor.was)

pub field-finish_shorthand-requires : goal.field-finish_shorthand-requires
field-finish_shorthand-requires t c = (
  search (rules, past-name, c.in_ok-cursor.was),
  search (rules, slots),
  search rules,
  search rules,
  search rules,
)

pub field-returns-in_default : goal.field-returns-in_default
field-returns-in_default t c = search (rules, field-short, c.in_ok-cursor.was)

pub field-parse_expression-requires : goal.field-parse_expression-requires
field-parse_expression-requires t c = (search rules, search (rules, colon-found, c.in_ok-cursor.was))

pub field-returns-in_err-value : goal.field-returns-in_err-value
field-returns-in_err-value t c = returned c.from_residual-in_err-value.ensures.1 (search (rules, field-refused, c.in_ok-cursor.was, c.in_err-value.was))

pub field-finish_field-requires : goal.field-finish_field-requires
field-finish_field-requires t c =
    let p = c.requires in
    let h = c.consume.ensures in
    let e = c.in_ok-cursor.was in
    let z = colon-found h e p.0 c.consume_optional.ensures c.in-Some.is in
    let g = c.parse_expression.ensures in
    let q = c.in_ok-value.was in (
      past-expression _ g q z,
      expression-slots _ g q z,
      expression-kept _ g q z p.1,
      expression-kept _ g q z p.2,
      omega (arith, p.0.at, p.0.tokens),
    )

pub field-returns : goal.field-returns
field-returns t c = search (rules, field-read, c.in_ok-cursor.was, c.in_ok-value.was)

pub group-returns-in_err-cursor : goal.group-returns-in_err-cursor
group-returns-in_err-cursor t c = returned c.from_residual.ensures.1 (search (rules, group-refused, c.in_err-cursor.was))

pub group-push_closed-requires : goal.group-push_closed-requires
group-push_closed-requires t c = (search (rules, past-expression, c.in_ok-cursor.was), search (rules, expression-slots, c.in_ok-cursor.was))

pub group-returns : goal.group-returns
group-returns t c = search (rules, group-read, c.in_ok-cursor.was)

pub item-returns-in-Some : goal.item-returns-in-Some
item-returns-in-Some t c = search (rules, item-none)

pub item-returns-in_err-item : goal.item-returns-in_err-item
item-returns-in_err-item t c = returned c.from_residual.ensures.1 (search (rules, item-refused, c.in_err-item.was))

pub item-finish_item-requires : goal.item-finish_item-requires
item-finish_item-requires t c =
    let (z, f, f', _) = c.requires in
    let g = c.parse_expression.ensures in
    let q = c.in_ok-item.was in
    (past-expression _ g q z, expression-slots _ g q z, expression-kept _ g q z f, expression-kept _ g q z f')

pub item-returns : goal.item-returns
item-returns t c = search (rules, item-read, c.in_ok-item.was)

pub next_field-returns-in-Some : goal.next_field-returns-in-Some
next_field-returns-in-Some t c = search (rules, item-none)

pub next_field-returns : goal.next_field-returns
next_field-returns t c = search (rules, field-item)

pub parse_expression-returns-then-unused-eq0 : goal.parse_expression-returns-then-unused-eq0
parse_expression-returns-then-unused-eq0 t c = search (rules, too-deep)

pub parse_expression-returns-then-lone_integer : goal.parse_expression-returns-then-lone_integer
parse_expression-returns-then-lone_integer t c = search (rules, expression-lone)

pub parse_expression-returns : goal.parse_expression-returns
parse_expression-returns t c = search (rules, expression-read)

pub primary-rest_of_list-requires : goal.primary-rest_of_list-requires
primary-rest_of_list-requires t c = (search rules, (search (rules, list-sized), search (rules, owner-fits)))

pub primary-rest_of_fields-requires : goal.primary-rest_of_fields-requires
primary-rest_of_fields-requires t c = (search rules, (search (rules, fields-sized), search (rules, fields_fit)))

pub primary-reference-requires : goal.primary-reference-requires
primary-reference-requires t c = (search rules, search (rules, reference-sized))

pub primary-push_name-requires : goal.primary-push_name-requires
primary-push_name-requires t c = (search (rules, name-slots), search rules)

pub primary-group-requires : goal.primary-group-requires
primary-group-requires t c = (search rules, search (rules, group-sized))

pub primary-returns-in-List : goal.primary-returns-in-List
primary-returns-in-List t c = search (rules, list-opened)

pub primary-returns-in-Fields : goal.primary-returns-in-Fields
primary-returns-in-Fields t c = search (rules, fields-opened)

pub primary-returns-in-Reference : goal.primary-returns-in-Reference
primary-returns-in-Reference t c = search (rules, reference-opened)

pub primary-returns-in-Name : goal.primary-returns-in-Name
primary-returns-in-Name t c = search (rules, name-opened)

pub primary-returns-in-Group : goal.primary-returns-in-Group
primary-returns-in-Group t c = search (rules, group-opened)

pub primary-returns-in-Literal : goal.primary-returns-in-Literal
primary-returns-in-Literal t c = search (rules, literal-opened)

pub primary-returns-in-Refused : goal.primary-returns-in-Refused
primary-returns-in-Refused t c = search (rules, primary-refused)

pub reference-returns-in_err-named : goal.reference-returns-in_err-named
reference-returns-in_err-named t c = returned c.from_residual.ensures.1 (search (rules, reference-refused, c.in_err-named.was))

pub reference-advance-requires : goal.reference-advance-requires
reference-advance-requires t c = (search rules, (search (rules, after-deref, c.in_ok-named.was), search (rules, deref-fits, c.in_ok-named.was)))

pub reference-returns-then-pointer : goal.reference-returns-then-pointer
reference-returns-then-pointer t c = search (rules, reference-advanced, c.in_ok-named.was)

pub reference-returns-else-pointer : goal.reference-returns-else-pointer
reference-returns-else-pointer t c = search (rules, reference-alone, c.in_ok-named.was)

pub rest_of_fields-loop-turn-init : goal.rest_of_fields-loop-turn-init
rest_of_fields-loop-turn-init t c = (refl, search rules, search (rules, none-fits), search rules, search (rules, first-item))

pub rest_of_fields-returns-in_err-turn : goal.rest_of_fields-returns-in_err-turn
rest_of_fields-returns-in_err-turn t c = returned c.from_residual.ensures.1 (search (rules, list-refused, c.in_err-turn.was))

pub rest_of_fields-loop-turn-smaller : goal.rest_of_fields-loop-turn-smaller
rest_of_fields-loop-turn-smaller t c = search (rules, turn-less, c.in_ok-turn.was)

pub rest_of_fields-loop-turn-preserved : goal.rest_of_fields-loop-turn-preserved
rest_of_fields-loop-turn-preserved t c = (
  search rules,
  search (rules, turn-sized, c.in_ok-turn.was),
  search (rules, turn-fits, c.in_ok-turn.was),
  search (rules, turn-counts, c.in_ok-turn.was),
  search (rules, next-item, c.in_ok-turn.was),
)

pub rest_of_fields-finish_fields-requires : goal.rest_of_fields-finish_fields-requires
rest_of_fields-finish_fields-requires t c = (
  search (rules, list-slots, c.in_ok-turn.was),
  search (rules, list-fits, c.in_ok-turn.was),
  search rules,
)

pub rest_of_fields-returns-in-Last : goal.rest_of_fields-returns-in-Last
rest_of_fields-returns-in-Last t c = search (rules, list_read, c.in_ok-turn.was)

pub rest_of_list-loop-turn-init : goal.rest_of_list-loop-turn-init
rest_of_list-loop-turn-init t c = (refl, search rules, search (rules, none-fits), search rules, search (rules, first-item))

pub rest_of_list-returns-in_err-turn : goal.rest_of_list-returns-in_err-turn
rest_of_list-returns-in_err-turn t c = returned c.from_residual.ensures.1 (search (rules, list-refused, c.in_err-turn.was))

pub rest_of_list-loop-turn-smaller : goal.rest_of_list-loop-turn-smaller
rest_of_list-loop-turn-smaller t c = search (rules, turn-less, c.in_ok-turn.was)

pub rest_of_list-loop-turn-preserved : goal.rest_of_list-loop-turn-preserved
rest_of_list-loop-turn-preserved t c = (
  search rules,
  search (rules, turn-sized, c.in_ok-turn.was),
  search (rules, turn-fits, c.in_ok-turn.was),
  search (rules, turn-counts, c.in_ok-turn.was),
  search (rules, next-item, c.in_ok-turn.was),
)

pub rest_of_list-finish_list-requires : goal.rest_of_list-finish_list-requires
rest_of_list-finish_list-requires t c = (
  search (rules, list-slots, c.in_ok-turn.was),
  search (rules, list-fits, c.in_ok-turn.was),
  search rules,
  search (rules, list-load, c.in_ok-turn.was),
)

pub rest_of_list-returns-in-Last : goal.rest_of_list-returns-in-Last
rest_of_list-returns-in-Last t c = search (rules, list_read, c.in_ok-turn.was)

pub singular-unary-operand-requires : goal.singular-unary-operand-requires
singular-unary-operand-requires t c = (search rules, search (rules, past-cast))

pub singular-returns-then-bare : goal.singular-returns-then-bare
singular-returns-then-bare t c = search (rules, singular-bare)

pub singular-returns-in_err-cursor : goal.singular-returns-in_err-cursor
singular-returns-in_err-cursor t c = returned c.from_residual.ensures.1 (search (rules, singular-refused, c.in_err-cursor.was))

pub singular-finish_singular-requires : goal.singular-finish_singular-requires
singular-finish_singular-requires t c = (
  search (rules, after-cast-unary, c.in_ok-cursor.was),
  search (rules, cast-unary-fits, c.in_ok-cursor.was),
  search (rules, cast-fits),
)

pub singular-returns : goal.singular-returns
singular-returns t c = search (rules, singular-read, c.in_ok-cursor.was)

pub step-returns-in_err-index-in-5 : goal.step-returns-in_err-index-in-5
step-returns-in_err-index-in-5 t c = returned c.from_residual.ensures.1 (search (rules, index-refused, c.in_err-index-in-5.was))

pub step-finish_element-requires : goal.step-finish_element-requires
step-finish_element-requires t c =
    let p = c.requires in
    let z = past-token _ _ c.peek.ensures c.in-5.is refl p.0 in
    let g = c.parse_expression.ensures in
    let q = c.in_ok-index-in-5.was in
    (past-expression _ g q z, expression-slots _ g q z, expression-kept _ g q z p.1)

pub step-returns-in_err-longer-in-5 : goal.step-returns-in_err-longer-in-5
step-returns-in_err-longer-in-5 t c = returned c.from_residual-in_err-longer-in-5.ensures.1 (search (rules, element-refused, c.in_ok-index-in-5.was, c.in_err-longer-in-5.was))

pub step-returns-in_err-longer-in-21 : goal.step-returns-in_err-longer-in-21
step-returns-in_err-longer-in-21 t c = returned c.from_residual-in_err-longer-in-21.ensures.1 (search (rules, member-refused, c.in_err-longer-in-21.was))

pub step-returns : goal.step-returns
step-returns t c =
    elim c.match-peek.branch [
      | step-in-5+in_ok-index-in-5+in_ok-longer-in-5 w ↦
          rw (w.longer-is, w.node_words-is)
          (search (
            rules,
            element-listed,
            c.peek.ensures,
            w.in-5.is,
            w.parse_expression.ensures,
            w.in_ok-index-in-5.was,
            w.finish_element.ensures,
            w.in_ok-longer-in-5.was,
          ))
      | step-in-21+in_ok-longer-in-21 w ↦
          rw (w.longer-is, w.node_words-is)
          (search (rules, member-listed, c.peek.ensures, w.in-21.is, w.parse_member.ensures, w.in_ok-longer-in-21.was))
    ]

pub step-returns-in_default : goal.step-returns-in_default
step-returns-in_default t c = search (rules, step-none)

pub unary-parse_size_of-requires : goal.unary-parse_size_of-requires
unary-parse_size_of-requires t c = (search rules, search (rules, size-inside))

pub unary-returns-then-token-eq-PipeForType : goal.unary-returns-then-token-eq-PipeForType
unary-returns-then-token-eq-PipeForType t c = search (rules, size-read)

pub unary-returns-then-token-eq-NakedDecimal : goal.unary-returns-then-token-eq-NakedDecimal
unary-returns-then-token-eq-NakedDecimal t c = search (rules, decimal-read)

pub unary-primary-operand-requires : goal.unary-primary-operand-requires
unary-primary-operand-requires t c = (search rules, search (rules, operand-sized))

pub unary-returns-then-from-start : goal.unary-returns-then-from-start
unary-returns-then-from-start t c = search (rules, unary-plain)

pub unary-returns-in_err-cursor : goal.unary-returns-in_err-cursor
unary-returns-in_err-cursor t c = returned c.from_residual.ensures.1 (search (rules, unary-refused, c.in_err-cursor.was))

pub unary-finish_unary-requires : goal.unary-finish_unary-requires
unary-finish_unary-requires t c = (
  search (rules, past-operand, c.in_ok-cursor.was),
  search (rules, operand-slots, c.in_ok-cursor.was),
  search rules,
)

pub unary-returns : goal.unary-returns
unary-returns t c = search (rules, unary_read, c.in_ok-cursor.was)
