-- What a mask leaves of two words put together by `|`: nothing exactly where it leaves nothing of either.
use Rattle.std.proofs.Common.{◌≡◌, ℕ, ◌+◌, ◌*◌, ◌/◌, ◌%◌, ◌<◌, min, max, Bool, true, false, ◌&&◌, eqb, sym, refl, ap, ◌∙◌, ap₂, mod-lt, zero-lt-suc, arith, eq-eqb, ne_eqb, eqb-true}
use lib.Arith.{bin_ind, digits_mod}
use lib.Bits.{bit_and, bit_or, and_step, or_step, and_shr, or_shr, or_add_and, and_le_l, and_le_r}
use borrow.Author.Tests.{eqb-false}

digit : (x y z : ℕ) → min (max x y) z ≡ max (min x z) (min y z)
digit x y z = omega arith

odd : (n : ℕ) → n % 2 < 2
odd n = mod-lt n (zero-lt-suc 1)

or-odd : (a b : ℕ) → bit_or a b % 2 ≡ max (a % 2) (b % 2)
or-odd a b = ap (λ (x : ℕ). x % 2) (or_step a b) ∙ digits_mod (bit_or (a / 2) (b / 2)) (omega (arith, odd a, odd b))

and-odd : (a b : ℕ) → bit_and a b % 2 ≡ min (a % 2) (b % 2)
and-odd a b = ap (λ (x : ℕ). x % 2) (and_step a b) ∙ digits_mod (bit_and (a / 2) (b / 2)) (omega (arith, odd a, odd b))

pub and-or : (a b m : ℕ) → bit_and (bit_or a b) m ≡ bit_or (bit_and a m) (bit_and b m)
and-or =
    bin_ind (λ (n : ℕ). (b m : ℕ) → bit_and (bit_or n b) m ≡ bit_or (bit_and n m) (bit_and b m)) (λ b m. refl)
    (λ n ih b m.
    and_step (bit_or n b) m
    ∙ ap₂ (λ (x y : ℕ). bit_and x (m / 2) * 2 + min y (m % 2)) (or_shr n b 1) (or-odd n b)
    ∙ ap₂ (λ (x y : ℕ). x * 2 + y) (ih (b / 2) (m / 2)) (digit (n % 2) (b % 2) (m % 2))
    ∙ ap₂
    (λ (x y : ℕ). bit_or x y * 2 + max (min (n % 2) (m % 2)) (min (b % 2) (m % 2)))
    (sym (and_shr n m 1))
    (sym (and_shr b m 1))
    ∙ ap₂ (λ (x y : ℕ). bit_or (bit_and n m / 2) (bit_and b m / 2) * 2 + max x y) (sym (and-odd n m)) (sym (and-odd b m))
    ∙ sym (or_step (bit_and n m) (bit_and b m)))

-- a number that is 0 exactly where two others are
pub zeros :
    (x a b : ℕ) → (x ≡ 0 → (a ≡ 0) × (b ≡ 0)) → (a ≡ 0 → b ≡ 0 → x ≡ 0) → eqb x 0 ≡ eqb a 0 && eqb b 0
zeros x a b f g = by (eqb a 0) refl (eqb b 0) refl
  where
    by : (p : Bool) → eqb a 0 ≡ p → (q : Bool) → eqb b 0 ≡ q → eqb x 0 ≡ p && q
    by true e true h = eq-eqb x 0 (g (eqb-true a 0 e) (eqb-true b 0 h))
    by true e false h = ne_eqb x 0 (λ k. eqb-false b 0 h (f k).1)
    by false e q h = ne_eqb x 0 (λ k. eqb-false a 0 e (f k).0)

or-zero : (a b : ℕ) → eqb (bit_or a b) 0 ≡ eqb a 0 && eqb b 0
or-zero a b =
    zeros (bit_or a b) a b
    (λ h. (omega (arith, or_add_and a b, and_le_r a b), omega (arith, or_add_and a b, and_le_l a b)))
    (λ f g. omega (arith, or_add_and a b))

pub masked : (a b m : ℕ) → eqb (bit_and (bit_or a b) m) 0 ≡ eqb (bit_and a m) 0 && eqb (bit_and b m) 0
masked a b m = ap (λ (x : ℕ). eqb x 0) (and-or a b m) ∙ or-zero (bit_and a m) (bit_and b m)
