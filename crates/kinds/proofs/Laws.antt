-- How the answer for a row follows from those for its words and for its rest.
use Rattle.std.proofs.Common.{◌≡◌, ℕ, zero, suc, ◌+◌, ◌*◌, ◌^◌, ◌<◌, ◌≤◌, max, Bool, true, false, not, ◌&&◌, eqb, ltb, nat_le, List, [], ◌∷◌, ◌++◌, length, get_or, take, drop, set, replicate, sym, refl, ap, ◌∙◌, ap₂, add-one, arith, take-append-drop, take-suc, take-add, append-nil, append_assoc, drop_of_length-le, take_all, ltb-false, ltb-true, le-ltb, lt-ltb, eq-eqb, ne_eqb, le-leb}
use lib.Bits.{bit_and, bit_or}
use borrow.Author.Tests.{lt-leb}
use Rattle.std.specs.Int.{w64, from_le_bytes}
use Rattle.std.specs.List.{concat, fold, list_all, zip}
use Rattle.std.specs.Simd.{first_chunks}
use Rattle.std.proofs.lemmas.List.Folds.{concat-append}
use Rattle.kinds.specs.Above.{most_without_top, none_above, Alike}
use Rattle.kinds.specs.Words.{number, Holds, tops_of_a_word, sum, clear, Joined}
use Rattle.kinds.proofs.Bits.{masked}
use Rattle.kinds.proofs.Lanes.{and_assoc, and-true, and-swap, put}
use Rattle.kinds.proofs.Exact.{first, others, exact}

-- some kinds, and some more
pub none-append : (limit : ℕ) (xs ys : List ℕ) → none_above limit (xs ++ ys) ≡ none_above limit xs && none_above limit ys
unfolding none_above
none-append limit [] ys = refl
none-append limit (x ∷ xs) ys =
    ap (λ (b : Bool). not (ltb limit x) && b) (none-append limit xs ys)
    ∙ sym (and_assoc (not (ltb limit x)) (none_above limit xs) (none_above limit ys))

pub at_most :
    (limit : ℕ) (kinds : List ℕ) → none_above limit kinds ≡ true → (place : ℕ) → place < length kinds →
    get_or kinds place 0 ≤ limit
at_most limit [] h place b = absurd (omega arith)
at_most limit (kind ∷ kinds) h zero b = first limit kind kinds h
at_most limit (kind ∷ kinds) h (suc place) b = at_most limit kinds (others limit kind kinds h) place (omega arith)

-- bytes that are asked one by one
pub asked : (limit : ℕ) (kinds : List ℕ) → list_all (λ kind. nat_le kind limit) kinds ≡ none_above limit kinds
unfolding none_above
asked limit [] = refl
asked limit (kind ∷ kinds) = ap₂ ◌&&◌ (by (ltb limit kind) refl) (asked limit kinds)
  where
    by : (above : Bool) → ltb limit kind ≡ above → nat_le kind limit ≡ not (ltb limit kind)
    by true e = let h = ltb-true limit kind e in lt-leb kind limit h ∙ sym (rw e refl)
    by false e = let h = ltb-false limit kind e in le-leb kind limit h ∙ sym (rw e refl)

-- a column is its chunks and its rest
chunks-taken : (n k : ℕ) (column : List ℕ) → concat (first_chunks n k column) ≡ take (k * n) column
chunks-taken n zero column = let e : 0 * n ≡ 0 = omega arith in rw e refl
chunks-taken n (suc k) column =
    let e : suc k * n ≡ n + k * n = omega arith in
    ap (λ (xs : List ℕ). take n column ++ xs) (chunks-taken n k (drop n column)) ∙ sym (take-add n (k * n) column)
    ∙ ap (λ (m : ℕ). take m column) (sym e)

divided :
    (limit n k : ℕ) (column : List ℕ) →
    none_above limit column
    ≡ none_above limit (concat (first_chunks n k column)) && none_above limit (drop (k * n) column)
divided limit n k column =
    ap (none_above limit) (sym (take-append-drop (k * n) column))
    ∙ none-append limit (take (k * n) column) (drop (k * n) column)
    ∙ ap (λ (xs : List ℕ). none_above limit xs && none_above limit (drop (k * n) column))
    (sym (chunks-taken n k column))

module _
    (limit n k : ℕ) (column : List ℕ) {chunks : List (List ℕ)} (e : chunks ≡ first_chunks n k column) {a : Bool}
    (f : a ≡ none_above limit (concat chunks)) where
  pub chunks-fail : a ≡ false → a ≡ none_above limit column
  chunks-fail h = h ∙ sym (divided limit n k column ∙ rw (← e, ← f, h) refl)

  pub chunks-pass :
      a ≡ true → {rest : List ℕ} → rest ≡ drop (k * n) column → {b : Bool} → b ≡ list_all (λ kind. nat_le kind limit) rest →
      b ≡ none_above limit column
  chunks-pass h {rest} r g = g ∙ asked limit rest ∙ sym (divided limit n k column ∙ rw (← e, ← f, h, r) refl)

-- the first chunks of a column, and the one after them
next-chunk :
    (chunks : List (List ℕ)) (n : ℕ) → n < length chunks → {chunk : List ℕ} → chunk ≡ get_or chunks n [] →
    concat (take (n + 1) chunks) ≡ concat (take n chunks) ++ chunk
next-chunk chunks n h {chunk} e =
    let t : take (n + 1) chunks ≡ take n chunks ++ (chunk ∷ []) = rw (add-one, take-suc chunks n [] h, ← e) refl in
    ap concat t ∙ concat-append (take n chunks) (chunk ∷ [])
    ∙ ap (λ (xs : List ℕ). concat (take n chunks) ++ xs) (append-nil chunk)

-- eight kinds as a word
all-bytes : (kinds : List ℕ) → ((place : ℕ) → get_or kinds place 0 < 256) → none_above 255 kinds ≡ true
unfolding none_above
all-bytes [] h = refl
all-bytes (kind ∷ kinds) h =
    let b : kind < 256 = h 0 in
    rw (le-ltb 255 kind (omega arith)) (all-bytes kinds (λ place. h (suc place)))

number-none : number [] ≡ 0
unfolding number
number-none = refl

number-from :
    (kinds : List ℕ) (place : ℕ) →
    number (drop place kinds) ≡ number (drop (suc place) kinds) * 2 ^ 8 + get_or kinds place 0
unfolding number
number-from [] zero = omega arith
number-from [] (suc place) = omega arith
number-from (kind ∷ kinds) zero = refl
number-from (kind ∷ kinds) (suc place) = number-from kinds place

eight-bytes : (kinds : List ℕ) → length kinds ≡ 8 → from_le_bytes w64 kinds ≡ number kinds
eight-bytes kinds l =
    let z : number (drop 8 kinds) ≡ number [] = ap number (drop_of_length-le kinds {i = 8} (omega arith)) in
    let n = number-from kinds in
    omega (arith, number-none, z, n 0, n 1, n 2, n 3, n 4, n 5, n 6, n 7)

pub held :
    (kinds : List ℕ) → length kinds ≡ 8 → ((place : ℕ) → get_or kinds place 0 < 256) → {word : ℕ} →
    word ≡ from_le_bytes w64 kinds → Holds kinds word
held kinds l h e = record { bytes = all-bytes kinds h; equal = e ∙ eight-bytes kinds l }

-- a byte that is the larger of two
above-larger : (limit a b : ℕ) → not (ltb limit (max a b)) ≡ not (ltb limit a) && not (ltb limit b)
above-larger limit a b = by (ltb limit a) refl (ltb limit b) refl
  where
    by :
        (p : Bool) → ltb limit a ≡ p → (q : Bool) → ltb limit b ≡ q →
        not (ltb limit (max a b)) ≡ not p && not q
    by true e q h =
        let f = ltb-true limit a e in
        rw (lt-ltb limit (max a b) (omega arith)) refl
    by false e true h =
        let f = ltb-true limit b h in
        rw (lt-ltb limit (max a b) (omega arith)) refl
    by false e false h =
        let f = ltb-false limit a e in
        let g = ltb-false limit b h in
        rw (le-ltb limit (max a b) (omega arith)) refl

-- the larger bytes of a column and of bytes after it
larger-alike :
    {bytes column : List ℕ} → Alike bytes column → (lane : ℕ) → lane < length bytes → (byte : ℕ) →
    Alike (set bytes lane (max (get_or bytes lane 0) byte)) (column ++ byte ∷ [])
unfolding none_above
larger-alike {bytes} {column} f lane h byte =
    record {
      same = λ limit.
          put (λ (k : ℕ). not (ltb limit k)) (none_above limit) (λ k ks. refl) max (above-larger limit) bytes lane h
          byte
          ∙ ap₂ ◌&&◌ (f.same limit) (sym (and-true (not (ltb limit byte))))
          ∙ sym (none-append limit column (byte ∷ []));
    }

pub next-type :
    (column types : List ℕ) (lane : ℕ) {bytes : List ℕ} → Alike bytes (column ++ take lane types) →
    lane < length bytes → lane < length types → {most : ℕ} → most ≡ max (get_or bytes lane 0) (get_or types lane 0) →
    Alike (set bytes lane most) (column ++ take (lane + 1) types)
next-type column types lane {bytes} f h l e =
    let byte = get_or types lane 0 in
    let t : column ++ take (lane + 1) types ≡ (column ++ take lane types) ++ byte ∷ [] =
    rw (add-one, take-suc types lane 0 l) (sym (append_assoc column (take lane types) (byte ∷ []))) in
    rw (t, e) (larger-alike f lane h byte)

fold-alike : (most : ℕ) (column : List ℕ) → Alike (fold max most column ∷ []) (most ∷ column)
unfolding none_above
fold-alike most [] = record { same = λ limit. refl }
fold-alike most (byte ∷ column) =
    let f = fold-alike (max most byte) column in
    record {
      same = λ limit.
          f.same limit ∙ ap (λ (b : Bool). b && none_above limit column) (above-larger limit most byte)
          ∙ and_assoc (not (ltb limit most)) (not (ltb limit byte)) (none_above limit column);
    }

-- the largest byte beside a limit
at-limit : (most limit : ℕ) → nat_le most limit ≡ none_above limit (most ∷ [])
at-limit most limit = sym (and-true (nat_le most limit)) ∙ asked limit (most ∷ [])

pub largest-at :
    (limit : ℕ) {bytes column : List ℕ} → Alike bytes column → {most : ℕ} → most ≡ fold max 0 bytes →
    nat_le most limit ≡ none_above limit column
unfolding none_above
largest-at limit {bytes} {column} f {most} e =
    at-limit most limit ∙ ap (λ (m : ℕ). none_above limit (m ∷ [])) e ∙ (fold-alike 0 bytes).same limit
    ∙ rw (le-ltb limit 0 (omega arith)) (f.same limit)

-- no byte yet
pub no-types : (n : ℕ) → Alike (replicate n 0) []
unfolding none_above
no-types n = record { same = λ limit. zeros limit n }
  where
    zeros : (limit n : ℕ) → none_above limit (replicate n 0) ≡ true
    zeros limit zero = refl
    zeros limit (suc n) = rw (le-ltb limit 0 (omega arith)) (zeros limit n)

-- the value types of one turn more
pub next-types :
    (types : List (List ℕ)) (block : ℕ) {bytes : List ℕ} → Alike bytes (concat (take block types)) →
    block < length types → {most : List ℕ} → Alike most (bytes ++ get_or types block []) →
    Alike most (concat (take (block + 1) types))
next-types types block {bytes} f h g =
    let before = concat (take block types) in
    let more = get_or types block [] in
    record {
      same = λ limit.
          g.same limit ∙ none-append limit bytes more
          ∙ ap (λ (b : Bool). b && none_above limit more) (f.same limit)
          ∙ sym (none-append limit before more)
          ∙ ap (none_above limit) (sym (next-chunk types block h refl));
    }

-- top bits of words that are put together, and their sums
abbrev put_together : ℕ → List ℕ → List ℕ → ℕ
put_together word tops sums = fold (λ all pair. bit_or all (bit_or pair.0 pair.1)) word (zip tops sums)

fold-clear :
    (word : ℕ) (tops sums : List ℕ) → length tops ≡ length sums →
    eqb (bit_and (put_together word tops sums) tops_of_a_word) 0
    ≡ eqb (bit_and word tops_of_a_word) 0 && (clear tops && clear sums)
unfolding clear
fold-clear word [] [] l = sym (and-true (eqb (bit_and word tops_of_a_word) 0))
fold-clear word [] (sum ∷ sums) l = absurd (omega arith)
fold-clear word (top ∷ tops) [] l = absurd (omega arith)
fold-clear word (top ∷ tops) (sum ∷ sums) l =
    let w = eqb (bit_and word tops_of_a_word) 0 in
    let x = eqb (bit_and top tops_of_a_word) 0 in
    let y = eqb (bit_and sum tops_of_a_word) 0 in
    fold-clear (bit_or word (bit_or top sum)) tops sums (omega arith)
    ∙ ap (λ (b : Bool). b && (clear tops && clear sums))
    (masked word (bit_or top sum) tops_of_a_word ∙ ap (λ (b : Bool). w && b) (masked top sum tops_of_a_word))
    ∙ and_assoc w (x && y) (clear tops && clear sums)
    ∙ ap (λ (b : Bool). w && b) (and-swap x y (clear tops) (clear sums))

-- whether a row passes by its joined words
joined-pass :
    {limit : ℕ} {row tops sums : List ℕ} → Joined limit row tops sums → length tops ≡ length sums → {word : ℕ} →
    word ≡ put_together 0 tops sums → eqb (bit_and word tops_of_a_word) 0 ≡ none_above limit row
joined-pass {tops = tops} {sums = sums} f l e =
    ap (λ (n : ℕ). eqb (bit_and n tops_of_a_word) 0) e ∙ fold-clear 0 tops sums l ∙ f.answer

-- some words of a row are put together, and their sums: they pass the test exactly where no kind is above the limit
module _
    {limit : ℕ} {row tops sums : List ℕ} (f : Joined limit row tops sums) (h : limit < most_without_top) {lane : ℕ}
    (t : lane < length tops) (s : lane < length sums) {kinds : List ℕ} {word other : ℕ} (w : Holds kinds word)
    (l : length kinds ≡ 8) (e : other ≡ sum limit word) where
  joins :
      (xs : List ℕ) → lane < length xs → (x : ℕ) →
      clear (set xs lane (bit_or (get_or xs lane 0) x)) ≡ clear xs && eqb (bit_and x tops_of_a_word) 0
  unfolding clear
  joins xs l x =
      put (λ (y : ℕ). eqb (bit_and y tops_of_a_word) 0) clear (λ y ys. refl) bit_or (λ y z. masked y z tops_of_a_word) xs lane l x

  pub one_word :
      Joined limit (row ++ kinds) (set tops lane (bit_or (get_or tops lane 0) word))
      (set sums lane (bit_or (get_or sums lane 0) other))
  one_word =
      record {
        answer =
            ap₂ ◌&&◌ (joins tops t word) (joins sums s other)
            ∙ and-swap (clear tops) (eqb (bit_and word tops_of_a_word) 0) (clear sums) (eqb (bit_and other tops_of_a_word) 0)
            ∙ ap₂ ◌&&◌ f.answer (sym (masked word other tops_of_a_word) ∙ rw e (exact limit (omega arith) kinds word l w))
            ∙ sym (none-append limit row kinds);
      }

  -- it is the next one of some words
  pub next_word :
      (before : List ℕ) (words : List (List ℕ)) (n : ℕ) → row ≡ before ++ concat (take n words) → n < length words →
      kinds ≡ get_or words n [] →
      Joined limit (before ++ concat (take (n + 1) words)) (set tops lane (bit_or (get_or tops lane 0) word))
      (set sums lane (bit_or (get_or sums lane 0) other))
  next_word before words n r b k =
      let c : before ++ concat (take (n + 1) words) ≡ row ++ kinds =
      ap (λ (xs : List ℕ). before ++ xs) (next-chunk words n b k)
      ∙ sym (append_assoc before (concat (take n words)) kinds)
      ∙ ap (λ (xs : List ℕ). xs ++ kinds) (sym r) in
      rw c one_word

-- no word yet
pub no-words : (limit n : ℕ) → Joined limit [] (replicate n 0) (replicate n 0)
unfolding clear none_above
no-words limit n = record { answer = rw (zeros n) refl }
  where
    zeros : (n : ℕ) → clear (replicate n 0) ≡ true
    zeros zero = refl
    zeros (suc n) = zeros n

-- all words of some kinds
pub lanes-end :
    {limit : ℕ} (before : List ℕ) (words : List (List ℕ)) (n : ℕ) {tops sums : List ℕ} →
    Joined limit (before ++ concat (take n words)) tops sums → length words ≤ n → (kinds : List ℕ) (k : ℕ) →
    words ≡ first_chunks 8 k kinds → length kinds ≤ k * 8 → Joined limit (before ++ kinds) tops sums
lanes-end before words n f h kinds k e l =
    let t : concat (take n words) ≡ kinds =
    ap concat (take_all n words h ∙ e) ∙ chunks-taken 8 k kinds ∙ take_all (k * 8) kinds l in
    rw t at f

-- in one place
pub words-end :
    {limit n : ℕ} (words : List (List ℕ)) {tops sums : ℕ} →
    Joined limit (concat (take n words)) (tops ∷ []) (sums ∷ []) → length words ≤ n →
    eqb (bit_and (bit_or tops sums) tops_of_a_word) 0 ≡ none_above limit (concat words)
unfolding clear
words-end {limit} {n} words {tops} {sums} f h =
    let p = eqb (bit_and tops tops_of_a_word) 0 in
    let q = eqb (bit_and sums tops_of_a_word) 0 in
    masked tops sums tops_of_a_word ∙ ap₂ ◌&&◌ (sym (and-true p)) (sym (and-true q)) ∙ f.answer
    ∙ ap (λ (xs : List (List ℕ)). none_above limit (concat xs)) (take_all n words h)

-- the words of one turn more
pub next-kinds :
    {limit : ℕ} (kinds : List (List ℕ)) (block : ℕ) {tops sums : List ℕ} → block < length kinds →
    Joined limit (concat (take block kinds) ++ get_or kinds block []) tops sums →
    Joined limit (concat (take (block + 1) kinds)) tops sums
next-kinds kinds block h f = rw (next-chunk kinds block h refl) f

-- no turn
pub no_block :
    (limit other : ℕ) (kinds types : List (List ℕ)) → length kinds ≡ 0 → length types ≡ length kinds →
    true ≡ none_above limit (concat kinds) && none_above other (concat types)
unfolding none_above
no_block limit other [] [] e l = refl
no_block limit other (k ∷ ks) types e l = absurd (omega arith)
no_block limit other [] (t ∷ ts) e l = absurd (omega arith)

-- all turns
module _
    {limit : ℕ} (kinds types : List (List ℕ)) (block : ℕ) {tops sums bytes : List ℕ}
    (f : Joined limit (concat (take block kinds)) tops sums) (g : Alike bytes (concat (take block types)))
    (h : length kinds ≤ block) (l : length types ≡ length kinds) (t : length tops ≡ 4) (s : length sums ≡ 4) {word : ℕ}
    (e : word ≡ put_together 0 tops sums) (other : ℕ) where
  kinds-told : eqb (bit_and word tops_of_a_word) 0 ≡ none_above limit (concat kinds)
  kinds-told =
      joined-pass f (t ∙ sym s) e ∙ ap (λ (xs : List (List ℕ)). none_above limit (concat xs)) (take_all block kinds h)

  pub blocks-fail :
      (bit_and word tops_of_a_word ≡ 0 → ⊥) →
      eqb (bit_and word tops_of_a_word) 0 ≡ none_above limit (concat kinds) && none_above other (concat types)
  blocks-fail n = let e = ne_eqb (bit_and word tops_of_a_word) 0 n in e ∙ sym (rw (sym kinds-told ∙ e) refl)

  pub blocks-pass :
      bit_and word tops_of_a_word ≡ 0 → {most : ℕ} → most ≡ fold max 0 bytes →
      nat_le most other ≡ none_above limit (concat kinds) && none_above other (concat types)
  blocks-pass z m =
      let e = eq-eqb (bit_and word tops_of_a_word) 0 z in
      largest-at other g m
      ∙ ap (λ (xs : List (List ℕ)). none_above other (concat xs)) (take_all block types (omega arith))
      ∙ sym (rw (sym kinds-told ∙ e) refl)

-- one test, and another one where it passes
module _ {a x : Bool} (e : a ≡ x) (y : Bool) where
  pub one-fails : a ≡ false → a ≡ x && y
  one-fails f = f ∙ sym (rw (sym e ∙ f) refl)

  pub both_told : a ≡ true → {b : Bool} → b ≡ y → b ≡ x && y
  both_told f g = g ∙ sym (rw (sym e ∙ f) refl)

-- a row is its turns and its rest
module _
    (limit other n k j : ℕ) (kinds types : List ℕ) {ks ts : List (List ℕ)} (e : ks ≡ first_chunks n k kinds)
    (g : ts ≡ first_chunks n j types) {a : Bool} (f : a ≡ none_above limit (concat ks) && none_above other (concat ts))
  where
    rows_told :
        none_above limit kinds && none_above other types
        ≡ a && (none_above limit (drop (k * n) kinds) && none_above other (drop (j * n) types))
    rows_told =
        let a' = none_above limit (concat (first_chunks n k kinds)) in
        let b' = none_above other (concat (first_chunks n j types)) in
        let c = none_above limit (drop (k * n) kinds) in
        let d = none_above other (drop (j * n) types) in
        let t : a ≡ a' && b' = rw (e, g) at f in
        ap₂ ◌&&◌ (divided limit n k kinds) (divided other n j types) ∙ and-swap a' c b' d
        ∙ ap (λ (x : Bool). x && (c && d)) (sym t)

    pub tokens-fail : a ≡ false → a ≡ none_above limit kinds && none_above other types
    tokens-fail h = h ∙ sym (rows_told ∙ rw h refl)

    pub tokens-pass :
        a ≡ true → {kr : List ℕ} → kr ≡ drop (k * n) kinds → {tr : List ℕ} → tr ≡ drop (j * n) types → {b : Bool} →
        b ≡ none_above limit kr && none_above other tr → b ≡ none_above limit kinds && none_above other types
    tokens-pass h x y i = i ∙ sym (rows_told ∙ rw (h, x, y) refl)
