-- What holds of what is read in a line.
use Rattle.std.specs.Prelude.{ℕ, ◌≤◌, ◌<◌, ◌≡◌, List, length, take}
use Rattle.lines.specs.Line.{Within}
use Rattle.row_text.specs.LineLimits as LineLimits
use Rattle.row_text.specs.declared.Row.{Row}

-- what stands after something that was read is the end of the text, and shorter
pub record Shorter (text rest : List ℕ) : Type 0 where
  pub within : Within text rest
  pub shorter : length rest < length text

-- A number that a line sets is at most so large, and what follows is the end of the line.
pub record Setting (line : List ℕ) (most number : ℕ) (rest : List ℕ) : Type 0 where
  pub within : Within line rest
  pub value : number ≤ most

-- The text is the beginning of the line, and slots and tokens are within their limits. Whether the line is good, and
-- which slots and tokens it says, is free: the outputs of the test programs show it.
pub record Fits (line : List ℕ) (r : Row) (count : ℕ) : Type 0 where
  pub text : r.text.now ≡ take (length r.text.now) line
  pub slots : r.slots ≤ LineLimits.slots
  pub tokens : count ≤ LineLimits.tokens
