-- The text that penne-nodes writes, in bytes.
use Rattle.std.specs.Prelude.{ℕ, zero, suc, ◌+◌, ◌/◌, ◌%◌, cond, List, [], ◌∷◌, ◌++◌, ltb, Ok, Err}
use Rattle.codes.specs.declared.NodeId.{NodeId}
use Rattle.codes.specs.declared.Read.{Read}
use Rattle.codes.specs.Answer.{ParseResult}
use Rattle.rules.specs.Columns.{Nodes}
use Rattle.rules.specs.Ways.{kind_at, load_at}

abbrev space : ℕ
space = 32

abbrev pub newline : List ℕ
newline = 10 ∷ []

abbrev digit : ℕ → ℕ
digit n = 48 + n

-- a number below 10 to the power of most, in decimal
unfoldable pub decimal_in : ℕ → ℕ → List ℕ
decimal_in zero n = []
decimal_in (suc most) n = cond (ltb n 10) (digit n ∷ []) (decimal_in most (n / 10) ++ digit (n % 10) ∷ [])

-- a 32-bit number, which has at most ten digits
abbrev pub decimal : ℕ → List ℕ
decimal n = decimal_in 10 n

-- a byte and a number
abbrev pub byte_number : ℕ → ℕ → List ℕ
byte_number byte n = byte ∷ decimal n

-- a word of two letters and a number
unfoldable pub word : ℕ → ℕ → ℕ → List ℕ
word a b n = a ∷ b ∷ byte_number space n

-- two numbers more
unfoldable pub two : ℕ → ℕ → List ℕ
two m n = byte_number space m ++ byte_number space n

-- the cursor and the node count, and the line's end
abbrev pub state_text : ℕ → ℕ → List ℕ
state_text cursor count = two cursor count ++ newline

-- the first line: `ok` or `no`, and the values of the reply (MANUAL.md, The program penne-nodes)
unfoldable pub reply : ParseResult (Read NodeId) → List ℕ
reply (Ok read) = word 111 107 read.value.0 ++ state_text read.cursor.0 read.count
reply (Err error) =
    word 110 111 error.number ++ two error.start.0 error.end.0 ++ state_text error.cursor.0 error.count

-- a line of three numbers for a node
unfoldable pub line : ℕ → ℕ → ℕ → List ℕ
line number kind load = decimal number ++ two kind load ++ newline

-- the lines of the first so many nodes
unfoldable pub lines : Nodes → ℕ → List ℕ
lines s zero = []
lines s (suc n) = lines s n ++ line n (kind_at s n) (load_at s n)

-- `bad file` and the line's end
abbrev pub bad_file : List ℕ
bad_file = 98 ∷ 97 ∷ 100 ∷ 32 ∷ 102 ∷ 105 ∷ 108 ∷ 101 ∷ newline
