-- The limits of a line.
use Rattle.std.specs.Prelude.{ℕ}

-- the tokens of a row with its slots
abbrev pub tokens : ℕ
tokens = 512

-- the tokens that the columns hold
abbrev pub room : ℕ
room = 65536

-- the slots that are lent
abbrev pub slots : ℕ
slots = 512
