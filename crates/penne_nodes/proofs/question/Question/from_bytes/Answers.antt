-- `penne_nodes::question::Question::from_bytes` meets its contract: by its tests in their order.
use Rattle.std.proofs.Common.{sym, ◌∙◌, arith}
use Rattle.penne_nodes.proofs.Laws.{size_in_front, short_bad, many-bad, length-bad, no-entry, the-entry, entry-bad, question-read}
use Rattle.penne_nodes.proofs.question.Question.from_bytes.Goals as goal

pub returns-in_err-sizes : goal.returns-in_err-sizes
returns-in_err-sizes c = rw c.from_residual.ensures (short_bad _ c.in_err-sizes.ensures.cases)

pub returns-then-tokens-gt-TOKENS : goal.returns-then-tokens-gt-TOKENS
returns-then-tokens-gt-TOKENS c =
    let (sizes, _, _) = c.in_ok-sizes.ensures.cases in
    many-bad _ (size_in_front _ sizes 0 (omega arith) c.size-tokens.ensures) c.if-tokens-gt-TOKENS.true

pub returns-then-columns-row : goal.returns-then-columns-row
returns-then-columns-row c =
    let (sizes, _, l) = c.in_ok-sizes.ensures.cases in
    length-bad _ (size_in_front _ sizes 0 (omega arith) c.size-tokens.ensures) (λ e. omega arith)

pub returns-in_err-entry : goal.returns-in_err-entry
returns-in_err-entry c =
    let (sizes, _, _) = c.in_ok-sizes.ensures.cases in
    rw c.from_residual-in_err-entry.ensures
    (entry-bad _ (size_in_front _ sizes 8 (omega arith) c.size.ensures)
    (no-entry _ c.try_from.ensures (sym c.ok.ensures.value ∙ c.in_err-entry.was)))

pub returns : goal.returns
returns c =
    let (sizes, columns, l) = c.in_ok-sizes.ensures.cases in
    let entry = the-entry _ c.try_from.ensures (sym c.ok.ensures.value ∙ c.in_ok-entry.was) in
    question-read _ (omega arith) (size_in_front _ sizes 0 (omega arith) c.size-tokens.ensures)
    c.if-tokens-gt-TOKENS.false columns c.if-columns-row.false (size_in_front _ sizes 8 (omega arith) c.size.ensures) _ entry
    c.split_at.ensures.front c.split_at.ensures.back (size_in_front _ sizes 4 (omega arith) c.size-2.ensures)
