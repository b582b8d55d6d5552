-- What stands after a name, and the value of digits.
use Rattle.std.proofs.Common.{ℕ, zero, suc, ◌+◌, ◌-◌, ◌*◌, ◌≤◌, ◌<◌, ◌≡◌, refl, ap, ◌∙◌, true, false, List, [], ◌∷◌, length, get_or, take, drop, None, Some, eqb, arith}
use Rattle.std.specs.Char.{is_ascii_digit}
use Rattle.std.specs.List.{fold, AllPass}
use Rattle.std.proofs.lemmas.List.Folds.{length-prefix_len}
use Rattle.std.proofs.lemmas.List.Sums.{prefix_len_passes, fold_more}
use Rattle.std.proofs.lemmas.List.{get_or-take, drop-drop}
use native.Mathlib.Numerals.{unary_clauses}
use lib.Pointwise.{pointwise}
use Rattle.lines.specs.Line.{Within, after_name}
use Rattle.lines.specs.Numbers.{value_of_digit, digits_in, value_of, read_until}

-- the end of the end of a line
pub within-more : {line rest end : List ℕ} → Within line rest → Within rest end → Within line end
within-more {line} {rest} {end} a b =
    let n : length line - length rest + (length rest - length end) ≡ length line - length end = omega (arith, a.shorter, b.shorter) in
    record {
      shorter = omega (arith, a.shorter, b.shorter);
      end = b.end ∙ ap (drop (length rest - length end)) a.end ∙ drop-drop (length rest - length end) (length line - length rest) line ∙ ap (λ (k : ℕ). drop k line) n;
    }

-- a name by its letters
pub after-none : (line name : List ℕ) → pointwise eqb (take (length name) line) name ≡ false → after_name line name ≡ None
after-none line [] e = cc
after-none [] (letter ∷ letters) e = refl
after-none (byte ∷ rest) (letter ∷ letters) e = grind (arith, after-none rest letters)

pub after-some :
    (line name : List ℕ) → pointwise eqb (take (length name) line) name ≡ true →
    after_name line name ≡ Some (drop (length name) line)
after-some line [] e = refl
after-some [] (letter ∷ letters) e = cc
after-some (byte ∷ rest) (letter ∷ letters) e = grind (arith, after-some rest letters)

-- more digits make no smaller number
no-smaller : (value : ℕ) (digits : List ℕ) → value ≤ fold (λ v d. v * 10 + value_of_digit d) value digits
no-smaller value [] = omega arith
no-smaller value (byte ∷ rest) = let h = no-smaller (value * 10 + value_of_digit byte) rest in omega arith

-- the first digits have no larger value than all of them
grows : (value : ℕ) (digits : List ℕ) (n : ℕ) →
    fold (λ v d. v * 10 + value_of_digit d) value (take n digits) ≤ fold (λ v d. v * 10 + value_of_digit d) value digits
grows value digits zero = no-smaller value digits
grows value [] (suc n) = omega arith
grows value (byte ∷ rest) (suc n) = grows (value * 10 + value_of_digit byte) rest n

pub value-grows : (digits : List ℕ) (i : ℕ) → i < length digits →
    value_of (take i digits) * 10 + value_of_digit (get_or digits i 0) ≤ value_of digits
value-grows digits i h =
    let f = λ (v d : ℕ). v * 10 + value_of_digit d in
    rw (← fold_more f 0 digits i 0 h) (grows 0 digits (i + 1))

-- one more digit is read of a number that is not too large yet
pub until-next : (most value : ℕ) (digits : List ℕ) (i : ℕ) → value ≤ most → i < length digits →
    read_until most value (drop i digits) ≡
    1 + read_until most (value * 10 + value_of_digit (get_or digits i 0)) (drop (i + 1) digits)
unfolding read_until
until-next most value [] i h k = omega (arith, k)
until-next most value (digit ∷ digits) zero h k = grind (arith)
until-next most value (digit ∷ digits) (suc i) h k =
    let e = until-next most value digits i h (omega (arith, k)) in
    simp unary_clauses (simp unary_clauses at e)

-- no more is read of one that is
pub until-above : (most value : ℕ) (digits : List ℕ) → most < value → read_until most value digits ≡ 0
unfolding read_until
until-above most value [] h = refl
until-above most value (digit ∷ digits) h = grind (arith)

-- the first bytes of a line that are digits
pub digits-pass : (line : List ℕ) → AllPass is_ascii_digit (take (digits_in line) line)
digits-pass line k d h =
    let e = length-prefix_len is_ascii_digit line in
    let b : k < digits_in line = omega arith in
    rw (get_or-take _ _ _ _ b) (prefix_len_passes is_ascii_digit line k d b)
