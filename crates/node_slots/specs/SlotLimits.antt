-- The limits of a column.
use Rattle.std.specs.Prelude.{ℕ}

-- its slots
abbrev pub slots : ℕ
slots = 131076
