-- Operands joined by operators, for sums and products: what their loops keep between two rounds, and a law for each
-- return of a round.
use mathlib.Core.Path.{◌≡◌, sym, ap}
use mathlib.Core.Bool.{Bool, true, false, true≢false}
use mathlib.Core.List.{List}
use Prim.Native.Nat.{ℕ, suc, ◌-◌, ◌<◌}
use native.Mathlib.Omega.{arith}
use lib.ListN.{length}
use Rattle.std.specs.Prelude.{Ok, Err}
use Rattle.codes.specs.declared.ParsingError.{ParsingError}
use Rattle.codes.specs.declared.NodeId.{NodeId}
use Rattle.codes.specs.declared.Read.{Read}
use Rattle.codes.specs.Answer.{ParseResult, row}
use Rattle.codes.specs.Words.{Gives, Untyped, Sized, nodes}
use Rattle.codes.proofs.Onto.{Onto, ◌then◌, stays, reads, regroup, answers, shows, told, hands_on, came-node, came-read}
use Rattle.codes.proofs.Loops.{Going, sets-out, goes-round, round, round-again, round-last}
use Rattle.operators.specs.declared.Pending.{Pending}
use Rattle.operators.specs.declared.Joint.{Joint}
use Rattle.operators.specs.declared.Joint.TheVariants.{More, Last, Refused as Stopped}
use Rattle.operators.specs.Answer.{pend, meaning, joint, factor_joined, term_joined, Fits, Next}
use Rattle.operators.proofs.Laws.{plain-joint}
use Rattle.operators.proofs.Bounds.{factor, term, after-operator}
use Rattle.expressions.specs.Answer.{sums, unaries, operand, factors}
use Rattle.expressions.proofs.Bounds.{after-operand, after-factor}
use Rattle.rules.specs.Codes.{pick}
use Rattle.rules.specs.Codes.Refusal as Refusal
use Rattle.rules.specs.Reading.{Rule, Row, Step, done, again, refuse, repeat, loop, ◌>>=◌}
use Rattle.rules.specs.Words.{Words}
use Rattle.rules.specs.Expressions as Rules
use Rattle.rules.specs.Expressions.{takes_unary, sum, product}

-- Rounds of which each reads an operand by m, and joins it by j.
module _ (tk tv : List ℕ) (m : Rules.Pending ℕ → Rule Words ℕ)
    (j : Rules.Pending ℕ → ℕ → Row → Rule Words (Step (Rules.Pending ℕ) ℕ)) where
  abbrev joins : ℕ → Rules.Pending ℕ → Rule Words ℕ
  joins = repeat (λ p. m p >>= λ right. j p right (row tk tv)) (refuse Refusal.OutOfRounds 0 0)

  module _ (p : Rules.Pending ℕ) {c : ℕ} {s : Words} {r₁ : ParseResult (Read NodeId)} {ks₁ : List ℕ}
      (g : Gives (m p) c s r₁ ks₁) where
    module _ {whole : Rule Words ℕ} {c₀ : ℕ} {s₀ : Words} (n : ℕ) (h : Onto whole c₀ s₀ (joins (suc n) p) c s) where
      round-stopped : {e : ParsingError} → r₁ ≡ Err e → Gives whole c₀ s₀ (Err e) ks₁
      round-stopped q = hands_on _ (h then round _ _ n stays then regroup _ _ _ _ _) (told g q)

      module _ {v : Read NodeId} (q : r₁ ≡ Ok v) {z : Joint} {ks₂ : List ℕ}
          (d : Untyped joint (j p v.value.0) tk v.cursor.0 (nodes ks₁ v.count) (meaning z) ks₂) where
        round-refused : {e : ParsingError} → z ≡ Stopped e → Gives whole c₀ s₀ (Err e) ks₂
        round-refused w = hands_on _ (h then round _ _ n (reads _ (came-node g q))) (told (d.run tv) (ap meaning w))

        round-ends : {x : Read NodeId} → z ≡ Last x → Gives whole c₀ s₀ (Ok x) ks₂
        round-ends {x} w =
            answers (h then round-last _ _ n
            (reads _ (came-node g q) then came-read (d.run tv) plain-joint {a = done x.value.0} (ap meaning w)))

    -- another round
    next-round :
        {v : Read NodeId} → r₁ ≡ Ok v → {z : Joint} {ks₂ : List ℕ} →
        Untyped joint (j p v.value.0) tk v.cursor.0 (nodes ks₁ v.count) (meaning z) ks₂ → {x : Read Pending} →
        z ≡ More x → (n : ℕ) → Onto (joins (suc n) p) c s (joins n (pend x.value)) x.cursor.0 (nodes ks₂ x.count)
    next-round q d {x} w n =
        round-again _ _ n
        (reads _ (came-node g q) then came-read (d.run tv) plain-joint {a = again (pend x.value)} (ap meaning w))

-- what is pending after an operand fits
pub next_fits : {z : Joint} → Next z → {x : Read Pending} → z ≡ More x → Fits x.value
unfolding Next
next_fits h w = rw w at h

-- an operand of a sum, by what is pending
abbrev term_operand : List ℕ → List ℕ → ℕ → Rules.Pending ℕ → Rule Words ℕ
term_operand tk tv u p = operand (takes_unary p) u (row tk tv)

-- Between two terms of a sum.
abbrev pub Terms : List ℕ → List ℕ → ℕ → ℕ → Words → Pending → ℕ → Words → Type 0
Terms tk tv u c₀ s₀ p c s =
    Going (sums u (row tk tv)) c₀ s₀ (joins tk tv (term_operand tk tv u) term_joined) (length tk) (pend p) c s

pub first-term :
    (tk tv : List ℕ) (u c : ℕ) (s : Words) (p : Pending) → pend p ≡ Rules.first → Terms tk tv u c s p c s
unfolding sums sum loop Rules.term operand unaries term_joined
first-term tk tv u c s p e = rw e (sets-out _ stays)

module _ (tk tv : List ℕ) (u c₀ : ℕ) {s₀ : Words} (p : Pending) (c k : ℕ) {ks : List ℕ}
    (h : Terms tk tv u c₀ s₀ p c (nodes ks k)) {bare : Bool} (b : bare ≡ takes_unary (pend p))
    {r₁ : ParseResult (Read NodeId)} {ks₁ : List ℕ} (g : Gives (operand bare u (row tk tv)) c (nodes ks k) r₁ ks₁) where
  given-term : Gives (term_operand tk tv u (pend p)) c (nodes ks k) r₁ ks₁
  given-term = rw b at g

  pub sum-stopped : {e : ParsingError} → r₁ ≡ Err e → Gives (sums u (row tk tv)) c₀ s₀ (Err e) ks₁
  sum-stopped q =
      round-stopped tk tv (term_operand tk tv u) term_joined (pend p) given-term h.rounds h.onto q

  module _ {v : Read NodeId} (q : r₁ ≡ Ok v) {z : Joint} {ks₂ : List ℕ}
      (d : Untyped joint (term_joined (pend p) v.value.0) tk v.cursor.0 (nodes ks₁ v.count) (meaning z) ks₂) where
    pub sum-refused : {e : ParsingError} → z ≡ Stopped e → Gives (sums u (row tk tv)) c₀ s₀ (Err e) ks₂
    sum-refused w =
        round-refused tk tv (term_operand tk tv u) term_joined (pend p) given-term h.rounds h.onto q d w

    pub sum-read : {x : Read NodeId} → z ≡ Last x → Gives (sums u (row tk tv)) c₀ s₀ (Ok x) ks₂
    sum-read w = round-ends tk tv (term_operand tk tv u) term_joined (pend p) given-term h.rounds h.onto q d w

    module _ {x : Read Pending} (w : z ≡ More x) (y : Sized tk tv ks c k) where
      sum-moves : Sized tk tv ks₂ x.cursor.0 x.count × (c < x.cursor.0)
      sum-moves =
          let (a, i) = after-operand u bare g q y in
          let (a', i') = after-operator (term (pend p) v.value.0) d w a in
          (a', omega arith)

      pub sum-sized : Sized tk tv ks₂ x.cursor.0 x.count
      sum-sized = sum-moves.0

      pub sum_less : length tk - x.cursor.0 < length tk - c
      sum_less = let (a, i) = sum-moves in omega (arith, a.at)

      pub next-term : Terms tk tv u c₀ s₀ x.value x.cursor.0 (nodes ks₂ x.count)
      next-term =
          goes-round _ h (next-round tk tv (term_operand tk tv u) term_joined (pend p) given-term q d w) sum-moves.1
          sum-moves.0.at

-- Between two factors of a product; a bare one has one operand only.
abbrev pub Factors : List ℕ → List ℕ → ℕ → Bool → ℕ → Words → Pending → ℕ → Words → Type 0
Factors tk tv u bare c₀ s₀ p c s =
    Going (operand bare u (row tk tv)) c₀ s₀
    (λ n q. pick bare (unaries u (row tk tv)) (joins tk tv (λ _. factors false u (row tk tv)) factor_joined n q))
    (length tk) (pend p) c s

pub first-factor :
    (tk tv : List ℕ) (u : ℕ) (bare : Bool) (c : ℕ) (s : Words) (p : Pending) → pend p ≡ Rules.first →
    Factors tk tv u bare c s p c s
unfolding operand product loop Rules.factor factors factor_joined
first-factor tk tv u bare c s p e = rw e (sets-out _ stays)

pub product-bare :
    (tk tv : List ℕ) (u : ℕ) (bare : Bool) (c₀ : ℕ) {s₀ : Words} (p : Pending) (c : ℕ) {s : Words} →
    Factors tk tv u bare c₀ s₀ p c s → {r₁ : ParseResult (Read NodeId)} {ks₁ : List ℕ} →
    Gives (factors bare u (row tk tv)) c s r₁ ks₁ → bare ≡ true → {v : Read NodeId} → r₁ ≡ Ok v →
    Gives (operand bare u (row tk tv)) c₀ s₀ (Ok v) ks₁
unfolding factors
product-bare tk tv u true c₀ p c h g e q = rw (← q) (shows h.onto g)
product-bare tk tv u false c₀ p c h g e q = absurd (true≢false (sym e))

pub product-stopped :
    (tk tv : List ℕ) (u : ℕ) (bare : Bool) (c₀ : ℕ) {s₀ : Words} (p : Pending) (c : ℕ) {s : Words} →
    Factors tk tv u bare c₀ s₀ p c s → {r₁ : ParseResult (Read NodeId)} {ks₁ : List ℕ} →
    Gives (factors bare u (row tk tv)) c s r₁ ks₁ → {e : ParsingError} → r₁ ≡ Err e →
    Gives (operand bare u (row tk tv)) c₀ s₀ (Err e) ks₁
unfolding factors
product-stopped tk tv u true c₀ p c h g q = rw (← q) (shows h.onto g)
product-stopped tk tv u false c₀ p c h g q =
    round-stopped tk tv (λ _. factors false u (row tk tv)) factor_joined (pend p) g h.rounds h.onto q

module _ (tk tv : List ℕ) (u : ℕ) (bare : Bool) (c₀ : ℕ) {s₀ : Words} (p : Pending) (c k : ℕ) {ks : List ℕ}
    (h : Factors tk tv u bare c₀ s₀ p c (nodes ks k)) {r₁ : ParseResult (Read NodeId)} {ks₁ : List ℕ}
    (g : Gives (factors bare u (row tk tv)) c (nodes ks k) r₁ ks₁) (b : bare ≡ false) where
  going : Factors tk tv u false c₀ s₀ p c (nodes ks k)
  going = rw b at h

  given : Gives (factors false u (row tk tv)) c (nodes ks k) r₁ ks₁
  given = rw b at g

  module _ {v : Read NodeId} (q : r₁ ≡ Ok v) {z : Joint} {ks₂ : List ℕ}
      (d : Untyped joint (factor_joined (pend p) v.value.0) tk v.cursor.0 (nodes ks₁ v.count) (meaning z) ks₂) where
    pub product-refused : {e : ParsingError} → z ≡ Stopped e → Gives (operand bare u (row tk tv)) c₀ s₀ (Err e) ks₂
    product-refused w =
        rw b
        (round-refused tk tv (λ _. factors false u (row tk tv)) factor_joined (pend p) given going.rounds going.onto q d
        w)

    pub product-read : {x : Read NodeId} → z ≡ Last x → Gives (operand bare u (row tk tv)) c₀ s₀ (Ok x) ks₂
    product-read w =
        rw b
        (round-ends tk tv (λ _. factors false u (row tk tv)) factor_joined (pend p) given going.rounds going.onto q d w)

    module _ {x : Read Pending} (w : z ≡ More x) (y : Sized tk tv ks c k) where
      product-moves : Sized tk tv ks₂ x.cursor.0 x.count × (c < x.cursor.0)
      product-moves =
          let (a, i) = after-factor u bare g q y in
          let (a', i') = after-operator (factor (pend p) v.value.0) d w a in
          (a', omega arith)

      pub product-sized : Sized tk tv ks₂ x.cursor.0 x.count
      product-sized = product-moves.0

      pub product-less : length tk - x.cursor.0 < length tk - c
      product-less = let (a, i) = product-moves in omega (arith, a.at)

      pub next-factor : Factors tk tv u bare c₀ s₀ x.value x.cursor.0 (nodes ks₂ x.count)
      next-factor =
          rw b
          (goes-round _ going
          (next-round tk tv (λ _. factors false u (row tk tv)) factor_joined (pend p) given q d w) product-moves.1
          product-moves.0.at)
