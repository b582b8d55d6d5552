-- The limits of a row.
use Rattle.std.specs.Prelude.{ℕ}

-- the tokens of either column
abbrev pub tokens : ℕ
tokens = 65536
