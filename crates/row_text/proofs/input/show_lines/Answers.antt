use Rattle.std.proofs.Common.{rules, eqb, ◌≡◌}
use Rattle.std.proofs.lemmas.List.Sorted.{answers_always}
use Rattle.row_text.specs.Lines.{line_end, lines, without_end}
use Rattle.row_text.proofs.Lines.{shown, called, on-option, handed-on, first-line, no-lines}
use Rattle.row_text.proofs.input.show_lines.Goals as goal

pub returns : goal.returns
returns g c =
    let h = c.try_for_each.ensures.ran in
    rw (← c.split_inclusive.ensures.rest, ← c.map.ensures.source)
    (shown g.F.FnMut c.try_for_each.ensures.runs.0 (λ s. lines s.iter.rest.now) h.0 _ _ _ _ _ h.1 _ h.3.1 h.4 h.3.2
    (on-option h.1 h.5 (λ e. e) (λ x k. (k.1, called g.F.FnMut k.3 (handed-on _ _ _ k.4 k.5), k.5.0)))
    (λ p q x k. called g.F.FnMut k.1 k.2)
    (λ s t o k. on-option o k (λ h. no-lines _ h.0.0)
    (λ y h.
    let cut : y.now ≡ without_end h.0.now = search rules in
    let ends = h.1.1.2 (λ b. eqb b line_end) (answers_always _ _ _ (λ f a r f' k. search rules)) in
    rw cut (first-line _ _ _ h.1.1.0 h.1.0 h.1.1.1 h.1.2 ends.1))))
