-- Kinds as one 64-bit word, and the test of a word.
use Rattle.std.specs.Prelude.{◌≡◌, ℕ, ◌+◌, ◌-◌, ◌*◌, ◌%◌, ◌^◌, Bool, true, ◌&&◌}
use Rattle.std.specs.Prelude.{List, [], ◌∷◌, length, ◌==◌, bit_and, bit_or}
use Rattle.kinds.specs.Above.{most_without_top, none_above}

-- how many kinds a word has
abbrev pub kinds_a_word : ℕ
kinds_a_word = 8

-- kinds as one number, the first in its lowest byte
unfoldable pub number : List ℕ → ℕ
number [] = 0
number (kind ∷ kinds) = number kinds * 2 ^ 8 + kind

-- A word holds some kinds, each of which is a byte.
pub record Holds (kinds : List ℕ) (word : ℕ) : Type 0 where
  pub bytes : none_above 255 kinds ≡ true
  pub equal : word ≡ number kinds

-- a word whose bytes are 1
abbrev pub ones_of_a_word : ℕ
ones_of_a_word = 0x0101_0101_0101_0101

-- the top bits of a word's bytes
abbrev pub tops_of_a_word : ℕ
tops_of_a_word = 0x8080_8080_8080_8080

-- A word with so much added to each kind that one above the limit gets its top bit set. A carry out of the word is
-- dropped.
abbrev pub sum : ℕ → ℕ → ℕ
sum limit word = (word + (most_without_top - limit) * ones_of_a_word) % 2 ^ 64

-- The test of a word: no top bit is set, neither in the word nor in its sum.
abbrev pub passes : ℕ → ℕ → Bool
passes limit word = bit_and (bit_or word (sum limit word)) tops_of_a_word == 0

-- Document 02: a word fails its test exactly when one of its eight kinds is above the limit. proofs/Exact.antt shows it
-- of every limit up to Most.
abbrev pub Exact : ℕ → Type 0
Exact limit =
    (kinds : List ℕ) (word : ℕ) → length kinds ≡ kinds_a_word → Holds kinds word →
    passes limit word ≡ none_above limit kinds

-- no top bit is set in any of some words
unfoldable pub clear : List ℕ → Bool
clear [] = true
clear (word ∷ words) = bit_and word tops_of_a_word == 0 && clear words

-- Some kinds are put together in words, and so are the words' sums: no top bit is set exactly where no kind is above
-- the limit.
pub record Joined (limit : ℕ) (kinds tops sums : List ℕ) : Type 0 where
  pub answer : clear tops && clear sums ≡ none_above limit kinds
