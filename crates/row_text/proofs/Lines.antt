-- What std cuts from a text, and the calls that it makes, by the lines of the text.
use Rattle.std.proofs.Common.{ℕ, zero, suc, ◌+◌, ◌-◌, ◌<◌, ◌≡◌, refl, ap, sym, subst, ◌∙◌, min, true, false, true≢false, List, [], ◌∷◌, ◌++◌, length, take, drop, get_or, Option, None, Some, Result, Ok, Err, MatchOption, eqb, arith, Bor}
use Rattle.std.specs.List.{IsFirstMatchOrLen, FoldsTo}
use Rattle.std.specs.Fn.{Mut, Called, CalledAt}
use Rattle.std.specs.Iterator.{Yields}
use Rattle.std.specs.Iterator.Runs.{Run}
use Rattle.std.specs.Prelude.{IsErr, IsErrAnd}
use native.Mathlib.Numerals.{unary_clauses}
use lib.Pointwise.{pointwise}
use Rattle.row_text.specs.Lines.{line_end, without_end, begun, lines, Shows}

-- a line by its last byte
pub whole-line : (line : List ℕ) → pointwise eqb (drop (length line - 1) line) (line_end ∷ []) ≡ false → line ≡ without_end line
whole-line [] e = refl
whole-line (byte ∷ []) e = grind arith
whole-line (byte ∷ next ∷ line) e = ap (λ (l : List ℕ). byte ∷ l) (whole-line (next ∷ line) (simp unary_clauses (simp unary_clauses at e)))

pub cut-line : (line : List ℕ) → pointwise eqb (drop (length line - 1) line) (line_end ∷ []) ≡ true → take (length line - 1) line ≡ without_end line
cut-line [] e = refl
cut-line (byte ∷ []) e = grind arith
cut-line (byte ∷ next ∷ line) e = simp unary_clauses (ap (λ (l : List ℕ). byte ∷ l) (simp unary_clauses at (cut-line (next ∷ line) (simp unary_clauses (simp unary_clauses at e)))))

head : {a b : ℕ} {l m : List ℕ} → a ∷ l ≡ b ∷ m → a ≡ b
head {a} e = ap (λ (l : List ℕ). get_or l 0 a) e

tail : {a b : ℕ} {l m : List ℕ} → a ∷ l ≡ b ∷ m → l ≡ m
tail e = ap (drop 1) e

-- the first part of a text, up to its first line end, is its first line
pub first-line : (text part rest : List ℕ) (i : ℕ) → text ≡ part ++ rest → length part ≡ min (i + 1) (length text) → 0 < length text →
    IsFirstMatchOrLen (λ b. eqb b line_end) text i → lines text ≡ without_end part ∷ lines rest
first-line [] part rest i e n p h = absurd (omega (arith, p))
first-line (byte ∷ text) [] rest i e n p h = absurd (omega (arith, n))
first-line (byte ∷ text) (first ∷ next ∷ part) rest zero e n p h = absurd (omega (arith, n))
first-line (byte ∷ text) (first ∷ []) rest zero e n p h =
    let b : eqb byte line_end ≡ true = h.1 (omega arith) 0 in
    let c : eqb first line_end ≡ true = subst (λ (k : ℕ). eqb k line_end ≡ true) (head e) b in
    rw (b, c) (ap (λ (l : List ℕ). [] ∷ lines l) (tail e))
first-line (byte ∷ []) (first ∷ next ∷ part) rest (suc i) e n p h = absurd (omega (arith, n))
first-line (byte ∷ []) (first ∷ []) rest (suc i) e n p h =
    let b : eqb byte line_end ≡ false = h.0 0 0 (omega arith) (omega arith) in
    rw (← head e, ← tail e, b) refl
first-line (byte ∷ next ∷ text) (first ∷ []) rest (suc i) e n p h = absurd (omega (arith, n))
first-line (byte ∷ next ∷ text) (first ∷ second ∷ part) rest (suc i) e n p h =
    let b : eqb byte line_end ≡ false = h.0 0 0 (omega arith) (omega arith) in
    let k = first-line (next ∷ text) (second ∷ part) rest i (tail e) (omega (arith, n)) (omega arith)
    (λ j d _ q. h.0 (suc j) d (omega arith) (omega arith), λ q. h.1 (omega arith)) in
    rw b (ap (begun byte) k ∙ ap (λ (c : ℕ). (c ∷ without_end (second ∷ part)) ∷ lines rest) (head e))

pub no-lines : (text : List ℕ) → length text ≡ 0 → lines text ≡ []
no-lines [] e = refl
no-lines (byte ∷ text) e = absurd (omega (arith, e))

-- what holds of an item that may be missing, by what else holds
pub on-option : {A : Type 0} {P Q : Type 0} {R T : A → Type 0} (o : Option A) → MatchOption o P R → (P → Q) → ((x : A) → R x → T x) → MatchOption o Q T
on-option None h none some = none h
on-option (Some x) h none some = some x h

-- a failure that is handed on is the same
pub handed-on : {E : Type 0} (r v : Result (Unit {0}) E) (e : E) → v ≡ Err e → IsErr r × IsErrAnd r (λ y. y ≡ e) → v ≡ r
handed-on (Ok x) v e h k = absurd k.1
handed-on {E = E} (Err y) v e h k = h ∙ ap (λ (z : E). Err z) (sym k.1)

module _ {F E : Type 0} (g : Mut F (Bor (List ℕ) × Unit {0}) (Result (Unit {0}) E)) where
  pub called : {f h : F} {x : Bor (List ℕ)} {v w : Result (Unit {0}) E} → Called g f (x, tt) v h → v ≡ w → CalledAt g f x.now w h
  called {f} {h} {x} k e = record { shown = x; shows = refl; called = subst (λ w. Called g f (x, tt) w h) e k }

  -- a call at an item broke off, with this result
  abbrev pub Fails : F → Result (Unit {0}) E → Bor (List ℕ) → Type 0
  Fails f r x = (h : F) × CalledAt g f x.now r h × IsErr r

  failed : (f : F) (x : Bor (List ℕ)) (ls : List (List ℕ)) (r : Result (Unit {0}) E) → Fails f r x → Shows g f (x.now ∷ ls) r
  failed f x ls (Ok y) k = absurd (true≢false (sym k.2))
  failed f x ls (Err y) k = (Err y, k.0, k.1, refl)

  -- Where each step of an iterator takes the first of the lines that are left, and each turn is a call that did not fail, calls
  -- until one fails show the lines. The run says which iterator it is.
  pub shown : {S : Type 0} {steps : S → Option (Bor (List ℕ)) → S → Type 0} {turn : F → Bor (List ℕ) → F → Type 0} → Run steps → (left : S → List (List ℕ))
      (xs : List (Bor (List ℕ))) (s t u : S) (f f' : F) (o : Option (Bor (List ℕ))) (r : Result (Unit {0}) E) →
      Yields steps s xs t → FoldsTo turn f xs f' → steps t o u → MatchOption o (r ≡ Ok tt) (Fails f' r) →
      ((p q : F) (x : Bor (List ℕ)) → turn p x q → CalledAt g p x.now (Ok tt) q) →
      ((s t : S) (o : Option (Bor (List ℕ))) → steps s o t → MatchOption o (left s ≡ []) (λ x. left s ≡ x.now ∷ left t)) →
      Shows g f (left s) r
  shown {steps = steps} p left [] s t u f f' None r y k n e on law =
      subst (λ l. Shows g f l r) (sym (law s u None (subst (λ t. steps t None u) (sym y) n))) e
  shown {steps = steps} p left [] s t u f f' (Some x) r y k n e on law =
      subst (λ l. Shows g f l r) (sym (law s u (Some x) (subst (λ t. steps t (Some x) u) (sym y) n)))
      (failed f x (left u) r (subst (λ f. Fails f r x) (sym k) e))
  shown p left (x ∷ xs) s t u f f' o r y k n e on law =
      subst (λ l. Shows g f l r) (sym (law s y.0 (Some x) y.1))
      (Ok tt, k.0, on f k.0 x k.1, shown p left xs y.0 t u k.0 f' o r y.2 k.2 n e on law)
