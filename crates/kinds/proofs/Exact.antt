-- A word fails its test exactly when one of its kinds is above the limit.
use Rattle.std.proofs.Common.{◌≡◌, ℕ, zero, suc, ◌+◌, ◌-◌, ◌*◌, ◌%◌, ◌^◌, ◌<◌, ◌≤◌, Bool, true, false, not, ◌&&◌, eqb, ltb, List, [], ◌∷◌, map, length, sym, refl, ap, ◌∙◌, ap₂, true≢false, mod-eq_of_lt, arith, pow-add, ltb-false, ltb-true, le-ltb, lt-ltb, eq-eqb, ne_eqb}
use lib.Arith.{digits_lt}
use lib.Bits.{bit_and, bit_or, and_block, and_comm, and_shifted}
use lib.ListN.{length-map}
use Rattle.kinds.specs.Above.{most_without_top, none_above}
use Rattle.kinds.specs.Words.{number, ones_of_a_word, Exact}
use Rattle.kinds.proofs.Bits.{zeros, masked}

-- none of some kinds is above a limit
module _ (limit kind : ℕ) (kinds : List ℕ) (h : none_above limit (kind ∷ kinds) ≡ true) where
  both : not (ltb limit kind) && none_above limit kinds ≡ true
  unfolding none_above
  both = h

  pub first : kind ≤ limit
  first = by (ltb limit kind) refl both
    where
      by : (above : Bool) → ltb limit kind ≡ above → not above && none_above limit kinds ≡ true → kind ≤ limit
      by true e b = absurd (true≢false (sym b))
      by false e b = ltb-false limit kind e

  pub others : none_above limit kinds ≡ true
  others = by (ltb limit kind) both
    where
      by : (above : Bool) → not above && none_above limit kinds ≡ true → none_above limit kinds ≡ true
      by true b = absurd (true≢false (sym b))
      by false b = b

pub higher : (a b : ℕ) (kinds : List ℕ) → a ≤ b → none_above a kinds ≡ true → none_above b kinds ≡ true
unfolding none_above
higher a b [] g h = refl
higher a b (kind ∷ kinds) g h =
    let f = first a kind kinds h in
    rw (le-ltb b kind (omega arith)) (higher a b kinds g (others a kind kinds h))

lower : (a b : ℕ) (kinds : List ℕ) → a ≤ b → none_above b kinds ≡ false → none_above a kinds ≡ false
lower a b kinds g h = by (none_above a kinds) refl
  where
    by : (none : Bool) → none_above a kinds ≡ none → none ≡ false
    by true e = absurd (true≢false (sym (higher a b kinds g e) ∙ h))
    by false e = refl

-- kinds that are all more by the same number
module _ (more : ℕ) where
  abbrev raised : List ℕ → List ℕ
  raised = map (λ (kind : ℕ). kind + more)

  above-too : (limit kind : ℕ) → ltb (limit + more) (kind + more) ≡ ltb limit kind
  above-too limit kind = by (ltb limit kind) refl
    where
      by : (above : Bool) → ltb limit kind ≡ above → ltb (limit + more) (kind + more) ≡ above
      by true e = let h = ltb-true limit kind e in lt-ltb (limit + more) (kind + more) (omega arith)
      by false e = let h = ltb-false limit kind e in le-ltb (limit + more) (kind + more) (omega arith)

  none-too : (limit : ℕ) (kinds : List ℕ) → none_above (limit + more) (raised kinds) ≡ none_above limit kinds
  unfolding none_above
  none-too limit [] = refl
  none-too limit (kind ∷ kinds) = rw (above-too limit kind, none-too limit kinds) refl

  -- as many bytes of that number
  repeated : ℕ → ℕ
  repeated zero = 0
  repeated (suc n) = repeated n * 2 ^ 8 + more

  -- the sum has no carry from one kind to the next
  raises : (kinds : List ℕ) → number kinds + repeated (length kinds) ≡ number (raised kinds)
  unfolding number repeated
  raises [] = refl
  raises (kind ∷ kinds) = let h = raises kinds in omega arith

-- so many bytes
pub one_byte : (n : ℕ) → 2 ^ (8 * suc n) ≡ 2 ^ (8 * n) * 2 ^ 8
one_byte n = let e : 8 * suc n ≡ 8 * n + 8 = omega arith in rw e (pow-add 2 (8 * n) 8)

pub fits : (kinds : List ℕ) → none_above 255 kinds ≡ true → number kinds < 2 ^ (8 * length kinds)
unfolding number
fits [] h = omega arith
fits (kind ∷ kinds) h =
    let f = first 255 kind kinds h in
    rw (one_byte (length kinds)) (digits_lt (fits kinds (others 255 kind kinds h)) (omega arith))

-- the top bit of a byte, and of some
top : (kind : ℕ) → kind ≤ 255 → eqb (bit_and kind 128) 0 ≡ not (ltb 127 kind)
top kind h = by (ltb 127 kind) refl
  where
    by : (above : Bool) → ltb 127 kind ≡ above → eqb (bit_and kind 128) 0 ≡ not above
    by true e =
        let g = ltb-true 127 kind e in
        let s : kind ≡ 1 * 2 ^ 7 + (kind - 128) = omega arith in
        let b : bit_and (1 * 2 ^ 7 + (kind - 128)) (1 * 2 ^ 7 + 0) ≡ 128 + bit_and (kind - 128) 0 =
        and_block 7 1 1 (kind - 128) 0 (omega arith) (omega arith) in
        let w : bit_and kind 128 ≡ 128 + bit_and (kind - 128) 0 = ap (λ (x : ℕ). bit_and x 128) s ∙ b in
        ne_eqb (bit_and kind 128) 0 (λ (z : bit_and kind 128 ≡ 0). omega arith)
    by false e =
        let g = ltb-false 127 kind e in
        eq-eqb (bit_and kind 128) 0 (and_comm kind 128 ∙ and_shifted 1 7 kind (omega arith))

no-tops :
    (kinds : List ℕ) → none_above 255 kinds ≡ true →
    eqb (bit_and (number kinds) (repeated 128 (length kinds))) 0 ≡ none_above 127 kinds
unfolding number repeated none_above
no-tops [] h = refl
no-tops (kind ∷ kinds) h =
    let f = first 255 kind kinds h in
    let x = bit_and (number kinds) (repeated 128 (length kinds)) in
    let y = bit_and kind 128 in
    ap
    (λ (n : ℕ). eqb n 0)
    (and_block 8 (number kinds) (repeated 128 (length kinds)) kind 128 (omega arith) (omega arith))
    ∙ zeros (x * 2 ^ 8 + y) y x (λ z. (omega arith, omega arith)) (λ a b. omega arith)
    ∙ ap₂ ◌&&◌ (top kind f) (no-tops kinds (others 255 kind kinds h))

-- any number of bytes, of which none carries into the next: more is what is added to each
module _ (limit more : ℕ) (e : limit + more ≡ most_without_top) (kinds : List ℕ) (b : none_above 255 kinds ≡ true) where
  tops : ℕ
  tops = repeated 128 (length kinds)

  total : ℕ
  total = number kinds + repeated more (length kinds)

  -- the top bits of the sum, where the word has none
  unset : none_above 127 kinds ≡ true → eqb (bit_and (total % 2 ^ (8 * length kinds)) tops) 0 ≡ none_above limit kinds
  unfolding total tops
  unset h =
      let r = raised more kinds in
      let l : length r ≡ length kinds = length-map kinds (λ (kind : ℕ). kind + more) in
      let f : none_above 255 r ≡ true = higher (127 + more) 255 r (omega arith) (none-too more 127 kinds ∙ h) in
      let g : number r < 2 ^ (8 * length kinds) = rw (← l) (fits r f) in
      let t : total % 2 ^ (8 * length kinds) ≡ number r =
      ap (λ (x : ℕ). x % 2 ^ (8 * length kinds)) (raises more kinds) ∙ mod-eq_of_lt g in
      ap (λ (x : ℕ). eqb (bit_and x tops) 0) t
      ∙ ap (λ (n : ℕ). eqb (bit_and (number r) (repeated 128 n)) 0) (sym l)
      ∙ no-tops r f
      ∙ ap (λ (n : ℕ). none_above n r) (sym e)
      ∙ none-too more limit kinds

  tested : eqb (bit_and (bit_or (number kinds) (total % 2 ^ (8 * length kinds))) tops) 0 ≡ none_above limit kinds
  unfolding tops
  tested = masked (number kinds) (total % 2 ^ (8 * length kinds)) tops ∙ by (none_above 127 kinds) refl
    where
      by :
          (low : Bool) → none_above 127 kinds ≡ low →
          eqb (bit_and (number kinds) tops) 0 && eqb (bit_and (total % 2 ^ (8 * length kinds)) tops) 0 ≡
          none_above limit kinds
      by true h = rw (no-tops kinds b ∙ h) (unset h)
      by false h = rw (no-tops kinds b ∙ h) (sym (lower limit 127 kinds (omega arith) h))

-- eight bytes
pub exact : (limit : ℕ) → limit ≤ most_without_top → Exact limit
unfolding total tops repeated
exact limit h kinds word l w =
    let more = most_without_top - limit in
    let e : limit + more ≡ most_without_top = omega arith in
    let o : more * ones_of_a_word ≡ repeated more 8 = omega arith in
    let t = tested limit more e kinds w.bytes in
    rw (w.equal, o) (rw l at t)
