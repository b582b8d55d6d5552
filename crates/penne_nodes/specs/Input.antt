-- The input of penne-nodes: how many tokens, the cursor and the entry in four bytes each, then a byte for each kind and
-- a byte for each value type. What is not of this form is a bad file (MANUAL.md, The program penne-nodes).
use Rattle.std.specs.Prelude.{ℕ, ◌+◌, ◌*◌, Bool, List, length, get_or, take, drop, eqb, ltb}
use Rattle.codes.specs.Answer.{row}
use Rattle.checks.specs.Checks.{or, unequal, input_check, checked}
use Rattle.rules.specs.Codes.{pick}
use Rattle.rules.specs.Codes.Limit as Limit
use Rattle.rules.specs.Reading.{Rule, Row}
use Rattle.rules.specs.Columns.{Nodes, columns}
use Rattle.rules.specs.Types.{type}
use Rattle.rules.specs.Expressions.{expression}

-- the slots for its nodes
abbrev pub program_slots : ℕ
program_slots = 8197

-- the bytes of the three sizes
abbrev pub sizes_before_kinds : ℕ
sizes_before_kinds = 12

-- the most tokens
abbrev pub program_tokens : ℕ
program_tokens = 4096

-- the little-endian number in four bytes
unfoldable pub size_at : List ℕ → ℕ → ℕ
size_at bytes at =
    get_or bytes at 0 + get_or bytes (at + 1) 0 * 256
    + (get_or bytes (at + 2) 0 + get_or bytes (at + 3) 0 * 256) * 65536

abbrev pub tokens_of : List ℕ → ℕ
tokens_of bytes = size_at bytes 0

abbrev pub cursor_in : List ℕ → ℕ
cursor_in bytes = size_at bytes 4

abbrev pub entry_of : List ℕ → ℕ
entry_of bytes = size_at bytes 8

-- whether the input is a bad file
unfoldable pub bad : List ℕ → Bool
bad bytes =
    or (ltb (length bytes) sizes_before_kinds)
    (or (ltb program_tokens (tokens_of bytes))
    (or (unequal (length bytes) (sizes_before_kinds + tokens_of bytes + tokens_of bytes)) (ltb 1 (entry_of bytes))))

-- the row of so many tokens after the sizes: the kinds, and then the value types
abbrev pub row_in : List ℕ → ℕ → Row
row_in bytes n = row (take n (drop sizes_before_kinds bytes)) (take n (drop (sizes_before_kinds + n) bytes))

-- the rule by the entry's number, after the checks of the entry, with no node yet
unfoldable pub asking : Row → ℕ → ℕ → Rule Nodes ℕ
asking row cursor entry =
    checked (input_check row cursor program_slots program_slots 0)
    (pick (eqb entry 1) (type columns row Limit.Nesting) (expression columns row Limit.Nesting))

-- the rule that the input asks for
abbrev pub asked : List ℕ → Rule Nodes ℕ
asked bytes = asking (row_in bytes (tokens_of bytes)) (cursor_in bytes) (entry_of bytes)
