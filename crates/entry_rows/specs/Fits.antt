-- What holds of what was read in a line.
use Rattle.std.specs.Prelude.{ℕ, ◌≤◌, ◌≡◌, List, length, take}
use Rattle.node_slots.specs.SlotLimits as SlotLimits
use Rattle.entry_rows.specs.QuestionLimits as QuestionLimits
use Rattle.entry_rows.specs.declared.question.Sizes.{Sizes}
use Rattle.entry_rows.specs.declared.question.Row.{Row}

-- the lengths of columns are within their limits
pub record SizesFit (r : Sizes) : Type 0 where
  pub slots : r.slots ≤ SlotLimits.slots
  pub loads : r.loads ≤ SlotLimits.slots
  pub types : r.types ≤ QuestionLimits.tokens

-- So are those of a row, and its text is the beginning of the line. Whether the line is good, and which question,
-- lengths and tokens it says, is free: the program's output shows it, a reply for each line. The tokens are within
-- their limit, since crate row_text's columns hold no more.
pub record Fits (line : List ℕ) (r : Row) : Type 0 where
  pub text : r.text.now ≡ take (length r.text.now) line
  pub sizes : SizesFit r.sizes
