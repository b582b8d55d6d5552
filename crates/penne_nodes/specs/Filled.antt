-- How many bytes of the buffer were read.
use Rattle.std.specs.Prelude.{ℕ, ◌≤◌, Result, IfOk}

-- the places of the buffer
abbrev pub input_bytes : ℕ
input_bytes = 8205

abbrev pub Filled : {E : Type 0} → Result ℕ E → Type 0
Filled read = IfOk read (λ end. end ≤ input_bytes)
