-- The steps of a reference: what their loop keeps between two rounds, and a law for each return.
use mathlib.Core.Path.{◌≡◌, refl, ap}
use mathlib.Core.Bool.{Bool, true, false}
use mathlib.Core.List.{List, [], ◌∷◌}
use mathlib.Core.Option.{Option, none}
use Prim.Native.Nat.{ℕ, suc, ◌+◌, ◌-◌, ◌≤◌, ◌<◌}
use native.Mathlib.Omega.{arith}
use Rattle.std.specs.Prelude.{Ok, Err}
use Rattle.codes.specs.declared.ParsingError.{ParsingError}
use Rattle.codes.specs.declared.NodeId.{NodeId}
use Rattle.codes.specs.declared.Read.{Read}
use Rattle.codes.specs.Answer.{ParseResult, row, token, refusal, state}
use Rattle.codes.specs.Words.{As, Gives, Untyped, Sized, nodes}
use Rattle.codes.proofs.Onto.{Onto, ◌then◌, first, reads, regroup, at_here, answers, declines, shows, told, stops}
use Rattle.codes.proofs.Onto.{hands_on, came-node, Rest, split}
use Rattle.codes.proofs.Loops.{held_in, same-held, turn-refused, turn_last, turn-again, round-over}
use Rattle.nodes.specs.declared.ActiveList.{ActiveList}
use Rattle.nodes.specs.declared.Turn.{Turn}
use Rattle.nodes.specs.declared.Turn.TheVariants.{More, Last}
use Rattle.nodes.specs.Answer.{WithinSlots, ends, active, past}
use Rattle.nodes.proofs.Laws.{active-ends, more-turn, last-turn}
use Rattle.nodes.proofs.Bounds.{slots}
use Rattle.tokens.specs.Answer.{kind_in}
use Rattle.tokens.proofs.Laws.{there, not_there, apart}
use Rattle.references.specs.Answer.{stepped, one_more, elementing, membering, deref_end}
use Rattle.references.proofs.Laws.{plain-stepped}
use Rattle.references.proofs.Bounds.{step_fits}
use Rattle.expressions.specs.Answer.{within, dereferring, stepping}
use Rattle.rules.specs.Codes.{pick}
use Rattle.rules.specs.Codes.BaseToken as BaseToken
use Rattle.rules.specs.Codes.Limit as Limit
use Rattle.rules.specs.Codes.Refusal as Refusal
use Rattle.rules.specs.Reading.{Rule, Row, Step, done, again, pure, repeat, ◌>>=◌, optional}
use Rattle.rules.specs.Lists.{Ends}
use Rattle.rules.specs.Words.{Words, words}
use Rattle.rules.specs.Expressions as Rules
use Rattle.rules.specs.Expressions.{expression, step, steps, exceeded, element_end, member}
use Rattle.rules.proofs.Forward.{Round}
use Rattle.rules.proofs.Forward.{below}
use Rattle.rules.proofs.Moves.{expression-moves, step-round}

-- a step, or none, by the token that stands there
module _ (tk tv : List ℕ) (u c t : ℕ) (peeked : t ≡ kind_in tk c) (l : ActiveList) {k : ℕ} {ks : List ℕ} where
  module _ (e : t ≡ BaseToken.BracketLeft) {r₁ : ParseResult (Read NodeId)} {ks₁ : List ℕ}
      (g : Gives (expression words (row tk tv) u) (c + 1) (nodes ks k) r₁ ks₁) where
    pub index-refused :
        {x : ParsingError} → r₁ ≡ Err x → As stepped (stepping (ends l) u (row tk tv)) c (nodes ks k) (Err x) ks₁
    unfolding stepping step
    index-refused q = hands_on _ (reads _ (there tk c t peeked tv _ e)) (told g q)

    module _ {v : Read NodeId} (q : r₁ ≡ Ok v) where
      pub element-read :
          {r : ParseResult (Read (Turn ActiveList))} {ks₂ : List ℕ} →
          Untyped stepped (elementing (ends l) v.value.0) tk v.cursor.0 (nodes ks₁ v.count) r ks₂ →
          As stepped (stepping (ends l) u (row tk tv)) c (nodes ks k) r ks₂
      unfolding stepping step elementing
      element-read d = shows (reads _ (there tk c t peeked tv _ e) then reads _ (came-node g q)) (d.run tv)

      -- the same, by the list with the step
      module _ (z : ParseResult (Read ActiveList)) {ks₂ : List ℕ}
          (d : Untyped stepped (elementing (ends l) v.value.0) tk v.cursor.0 (nodes ks₁ v.count) (one_more z) ks₂)
        where
          pub element-refused :
              {x : ParsingError} → z ≡ Err x →
              As stepped (stepping (ends l) u (row tk tv)) c (nodes ks k) (Err x) ks₂
          element-refused w = rw w at (element-read d)

          pub element-listed :
              {m : Read ActiveList} → z ≡ Ok m →
              As stepped (stepping (ends l) u (row tk tv)) c (nodes ks k)
              (Ok (record { value = More m.value; cursor = m.cursor; count = m.count })) ks₂
          element-listed w = rw w at (element-read d)

  module _ (e : t ≡ BaseToken.Dot) where
    pub member-read :
        {r : ParseResult (Read (Turn ActiveList))} {ks₁ : List ℕ} →
        Untyped stepped (membering (ends l)) tk (c + 1) (nodes ks k) r ks₁ →
        As stepped (stepping (ends l) u (row tk tv)) c (nodes ks k) r ks₁
    unfolding stepping step membering
    member-read d =
        shows
        (reads _ (not_there tk c t peeked tv _ (apart t _ _ refl e)) then reads _ (there tk c t peeked tv _ e))
        (d.run tv)

    -- the same, by the list with the step
    module _ (z : ParseResult (Read ActiveList)) {ks₁ : List ℕ}
        (d : Untyped stepped (membering (ends l)) tk (c + 1) (nodes ks k) (one_more z) ks₁) where
      pub member-refused :
          {x : ParsingError} → z ≡ Err x → As stepped (stepping (ends l) u (row tk tv)) c (nodes ks k) (Err x) ks₁
      member-refused w = rw w at (member-read d)

      pub member-listed :
          {m : Read ActiveList} → z ≡ Ok m →
          As stepped (stepping (ends l) u (row tk tv)) c (nodes ks k)
          (Ok (record { value = More m.value; cursor = m.cursor; count = m.count })) ks₁
      member-listed w = rw w at (member-read d)

pub step-none :
    (tk tv : List ℕ) (u c k t : ℕ) → t ≡ kind_in tk c → (l : ActiveList) {ks : List ℕ} →
    Rest t (Unit {0}) (BaseToken.BracketLeft ∷ BaseToken.Dot ∷ []) →
    As stepped (stepping (ends l) u (row tk tv)) c (nodes ks k)
    (Ok (record { cursor = token c; count = k; value = Last l })) ks
unfolding stepping step
step-none tk tv u c k t peeked l {ks} h =
    let g : As stepped (stepping (ends l) u (row tk tv)) c (nodes ks k)
    (Ok (record { cursor = token c; count = k; value = Last (active (ends l)) })) ks =
    answers
    (reads _ (not_there tk c t peeked tv _ h.0.1) then
    reads _ (not_there tk c t peeked tv _ h.1)) in
    rw (active-ends l) at g

-- a step of the code is that of the rules
module _ {z : ParseResult (Read (Turn ActiveList))} {v : Read (Turn ActiveList)} (w : z ≡ Ok v) {m : ActiveList} where
  pub more_same : v.value ≡ More m → z ≡ Ok (stepped (again (ends m)) (state v.cursor v.count))
  more_same e = more-turn active w (active-ends m) e

  pub last-same : v.value ≡ Last m → z ≡ Ok (stepped (done (ends m)) (state v.cursor v.count))
  last-same e = last-turn active w (active-ends m) e

-- after a step, or none: the list's end is among the nodes
stepped-fits :
    (at : Row) (expr : Rule Words ℕ) (l : Option Ends) {c : ℕ} {s : Words} {b : Step (Option Ends) (Option Ends)}
    {c' : ℕ} {s' : Words} → Onto (step words at expr l) c s (pure b) c' s' → past (active l) ≤ s'.count →
    past (active (held_in b)) ≤ s'.count
unfolding step optional element_end member
stepped-fits at expr l {s = s} {b = b} {c' = c'} {s' = s'} e h = let w = split e in by-bracket w.value w.two
  where
    by-dot :
        (v : Bool) {p : ℕ} {t : Words} → Onto (pick v (member words at l) (pure (done l))) p t (pure b) c' s' →
        past (active (held_in b)) ≤ s'.count
    by-dot true e = step_fits at l _ (split (split (split e).two).two).two h
    by-dot false {p} e =
        let (y, z) = same-held (done l) b p c' e in
        let v : past (active l) ≡ past (active (held_in b)) = ap (λ (x : Option Ends). past (active x)) y in
        omega arith

    by-bracket :
        (v : Bool) {p : ℕ} {t : Words} →
        Onto (pick v (expr >>= λ i. element_end words at l i)
        (optional at BaseToken.Dot >>= λ dot. pick dot (member words at l) (pure (done l)))) p t (pure b) c' s' →
        past (active (held_in b)) ≤ s'.count
    by-bracket true e = step_fits at l _ (split (split e).two).two h
    by-bracket false e = let w = split e in by-dot w.value w.two

module _ {tk tv ns : List ℕ} (u c k : ℕ) (l : ActiveList) {r : ParseResult (Read (Turn ActiveList))} {ns' : List ℕ}
    (g : As stepped (stepping (ends l) u (row tk tv)) c (nodes ns k) r ns') (z : Sized tk tv ns c k)
    (h : past l ≤ k) {v : Read (Turn ActiveList)} (w : r ≡ Ok v) where
  -- what the rules read is b
  step_after :
      (b : Step (Option Ends) (Option Ends)) → r ≡ Ok (stepped b (state v.cursor v.count)) →
      Sized tk tv ns' v.cursor.0 v.count × Round 0 c b v.cursor.0 ×
      (past (active (held_in b)) ≤ v.count)
  unfolding stepping
  step_after b q =
      round-over z plain-stepped
      (step-round (below (row tk tv)) (omega arith) (expression-moves (below (row tk tv)) (omega arith) u) (ends l) c)
      (λ m s. past (active m) ≤ s.count)
      (λ b p s e w. stepped-fits (row tk tv) _ (ends l) e (rw (active-ends l) (omega arith))) g b q

  module _ {m : ActiveList} where
    pub more-sized : v.value ≡ More m → Sized tk tv ns' v.cursor.0 v.count
    more-sized q = (step_after (again (ends m)) (more_same w q)).0

    pub more-fits : v.value ≡ More m → past m ≤ v.count
    more-fits q = let (a, b, e) = step_after (again (ends m)) (more_same w q) in rw (active-ends m) at e

    pub last-slots : v.value ≡ Last m → WithinSlots ns' v.count
    last-slots q = slots (step_after (done (ends m)) (last-same w q)).0

    pub last_fits : v.value ≡ Last m → past m ≤ v.count
    last_fits q = let (a, b, e) = step_after (done (ends m)) (last-same w q) in rw (active-ends m) at e

-- Between two steps: what is left of the reference, of whose steps so many were read.
abbrev pub Steps : List ℕ → List ℕ → ℕ → ℕ → ℕ → ℕ → ℕ → Words → ℕ → ActiveList → ℕ → Words → Type 0
Steps tk tv u start depth name c₀ s₀ n l c s =
    Onto (within (dereferring start depth name) u (row tk tv)) c₀ s₀
    (repeat (step words (row tk tv) (expression words (row tk tv) u)) (exceeded words c₀)
    (Limit.ReferenceDepth - n)
    (ends l) >>= λ m. deref_end m start depth name) c s

pub first_step :
    (tk tv : List ℕ) (u start depth name c : ℕ) (s : Words) (l : ActiveList) → ends l ≡ none →
    Steps tk tv u start depth name c s 0 l c s
unfolding within dereferring Rules.stepped steps deref_end
first_step tk tv u start depth name c s l q = rw q (first _ (at_here _) then regroup _ _ _ _ _)

module _ (tk tv : List ℕ) (u start depth name c₀ : ℕ) {s₀ : Words} (n : ℕ) (l : ActiveList) (c k : ℕ)
    {ks : List ℕ} (h : Steps tk tv u start depth name c₀ s₀ n l c (nodes ks k)) where
  pub steps-exceeded :
      Limit.ReferenceDepth ≤ n → {e : ParsingError} → e ≡ refusal Refusal.MaximumParseDepthExceeded c₀ c c k →
      Gives (within (dereferring start depth name) u (row tk tv)) c₀ s₀ (Err e) ks
  unfolding repeat exceeded
  steps-exceeded x e =
      let y : Limit.ReferenceDepth - n ≡ 0 = omega arith in
      rw e (declines (rw y at h then stops _ (at_here _)))

  module _ (x : n < Limit.ReferenceDepth) where
    left : Limit.ReferenceDepth - n ≡ suc (Limit.ReferenceDepth - (n + 1))
    left = omega arith

    going :
        Onto (within (dereferring start depth name) u (row tk tv)) c₀ s₀
        (repeat (step words (row tk tv) (expression words (row tk tv) u)) (exceeded words c₀)
        (suc (Limit.ReferenceDepth - (n + 1))) (ends l) >>= λ m. deref_end m start depth name) c (nodes ks k)
    going = rw left at h

    module _ {z : ParseResult (Read (Turn ActiveList))} {ks₁ : List ℕ}
        (g : As stepped (stepping (ends l) u (row tk tv)) c (nodes ks k) z ks₁) where
      pub steps-refused :
          {e : ParsingError} → z ≡ Err e → Gives (within (dereferring start depth name) u (row tk tv)) c₀ s₀ (Err e) ks₁
      unfolding stepping
      steps-refused w = turn-refused _ _ _ _ _ going g w

      module _ {v : Read (Turn ActiveList)} (w : z ≡ Ok v) {m : ActiveList} where
        pub steps-read :
            v.value ≡ Last m → {r : ParseResult (Read NodeId)} {ks₂ : List ℕ} →
            Gives (deref_end (ends m) start depth name) v.cursor.0 (nodes ks₁ v.count) r ks₂ →
            Gives (within (dereferring start depth name) u (row tk tv)) c₀ s₀ r ks₂
        unfolding stepping
        steps-read q d = turn_last _ _ _ _ _ going g plain-stepped {b = ends m} (last-same w q) d

        pub next-step :
            v.value ≡ More m →
            Steps tk tv u start depth name c₀ s₀ (n + 1) m v.cursor.0 (nodes ks₁ v.count)
        unfolding stepping
        next-step q = turn-again _ _ _ _ _ going g plain-stepped {b = ends m} (more_same w q)
