-- What each public entry with a word a node promises, for every input: what the entry with columns promises, of the
-- columns that the words unpack to. Unpacking loses nothing of a word (rules, Words: Exact).
use Rattle.std.specs.Prelude.{ℕ, ◌≡◌, List, map}
use Rattle.codes.specs.Answer.{nodes}
use Rattle.rules.specs.Reading.{Row}
use Rattle.rules.specs.Columns.{Nodes}
use Rattle.rules.specs.Words.{word_kind, word_load}
use Rattle.penne.specs.Promise.{Parsed, Expression, Type', Constant, Struct, Word}

-- a promise on columns, of words: those before and the count, the reply, and those after
abbrev pub Unpacked : (Nodes → Parsed → List ℕ → List ℕ → Type 0) → List ℕ → ℕ → Parsed → List ℕ → Type 0
Unpacked P ws count r ws' =
    P (nodes (map word_kind ws) (map word_load ws) count) r (map word_kind ws') (map word_load ws')

module _ (row : Row) (c : ℕ) where
  abbrev pub ExpressionWords : List ℕ → ℕ → Parsed → List ℕ → Type 0
  ExpressionWords = Unpacked (Expression row c)

  abbrev pub TypeWords : List ℕ → ℕ → Parsed → List ℕ → Type 0
  TypeWords = Unpacked (Type' row c)

  module _ (start flags : ℕ) where
    abbrev pub ConstantWords : List ℕ → ℕ → Parsed → List ℕ → Type 0
    ConstantWords = Unpacked (λ o. Constant row c o start flags)

    abbrev pub StructWords : List ℕ → ℕ → Parsed → List ℕ → Type 0
    StructWords = Unpacked (λ o. Struct row c o start flags)

    abbrev pub WordWords : ℕ → List ℕ → ℕ → Parsed → List ℕ → Type 0
    WordWords kind = Unpacked (λ o. Word row c o start flags kind)

-- columns and words that have the same nodes in all slots
abbrev pub Agreed : List ℕ → List ℕ → List ℕ → Type 0
Agreed ks ls ws = (ks ≡ map word_kind ws) × (ls ≡ map word_load ws)

-- Agreement, of an entry's promise on columns: where columns and words agree before a call, and one entry was asked
-- with each, the replies are equal, and they agree after it.
abbrev pub Transfers : (Nodes → Parsed → List ℕ → List ℕ → Type 0) → Type 0
Transfers P =
    (ks ls ws : List ℕ) (count : ℕ) (r r' : Parsed) (ks' ls' ws' : List ℕ) → Agreed ks ls ws →
    P (nodes ks ls count) r ks' ls' → Unpacked P ws count r' ws' → (r ≡ r') × Agreed ks' ls' ws'
