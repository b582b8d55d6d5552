-- A question asked of each number of a list, where numbers are put together in some places.
use Rattle.std.proofs.Common.{◌≡◌, ℕ, zero, suc, ◌<◌, Bool, true, false, ◌&&◌, List, [], ◌∷◌, length, get_or, set, sym, refl, ap, ◌∙◌, arith}

pub and_assoc : (a b c : Bool) → (a && b) && c ≡ a && (b && c)
and_assoc true b c = refl
and_assoc false b c = refl

pub and-true : (a : Bool) → a && true ≡ a
and-true true = refl
and-true false = refl

-- the second and the third
and-turn : (a b c : Bool) → (a && b) && c ≡ (a && c) && b
and-turn true true c = sym (and-true c)
and-turn true false true = refl
and-turn true false false = refl
and-turn false b c = refl

-- the first and third, the second and fourth
pub and-swap : (a b c d : Bool) → (a && b) && (c && d) ≡ (a && c) && (b && d)
and-swap true true c d = refl
and-swap true false true d = refl
and-swap true false false d = refl
and-swap false b c d = refl

-- `all` asks `each` of every number of a list
module _
    (each : ℕ → Bool) (all : List ℕ → Bool) (one : (x : ℕ) (xs : List ℕ) → all (x ∷ xs) ≡ each x && all xs) where
  -- two numbers are put together by `join`
  module _ (join : ℕ → ℕ → ℕ) (joins : (a b : ℕ) → each (join a b) ≡ each a && each b) where
    pub put :
        (xs : List ℕ) (lane : ℕ) → lane < length xs → (y : ℕ) →
        all (set xs lane (join (get_or xs lane 0) y)) ≡ all xs && each y
    put [] lane h y = absurd (omega arith)
    put (x ∷ xs) zero h y =
        one (join x y) xs ∙ ap (λ (b : Bool). b && all xs) (joins x y) ∙ and-turn (each x) (each y) (all xs)
        ∙ ap (λ (b : Bool). b && each y) (sym (one x xs))
    put (x ∷ xs) (suc lane) h y =
        one x (set xs lane (join (get_or xs lane 0) y)) ∙ ap (λ (b : Bool). each x && b) (put xs lane (omega arith) y)
        ∙ sym (and_assoc (each x) (all xs) (each y))
        ∙ ap (λ (b : Bool). b && each y) (sym (one x xs))
