-- What a parse into columns with all the slots has given.
use Rattle.std.specs.Prelude.{ℕ, ◌≤◌, List, ◌≡◌, length}
use Rattle.codes.specs.Answer.{Gives, count_of, nodes}
use Rattle.penne.specs.Promise.{Parsed}
use Rattle.rules.specs.Columns.{Nodes}
use Rattle.rules.specs.Reading.{Rule}
use Rattle.penne_nodes.specs.Input.{program_slots}

-- The node count of the reply is within the slots, of which both columns have all.
pub record Fits (r : Parsed) (ks ls : List ℕ) : Type 0 where
  pub count : count_of r ≤ program_slots
  pub kinds : length ks ≡ program_slots
  pub loads : length ls ≡ program_slots

-- The reply r and the columns ks' and ls' are what the rule m gives from the cursor c, the columns ks and ls, and no
-- node yet.
pub record Parses (m : Rule Nodes ℕ) (c : ℕ) (ks ls : List ℕ) (r : Parsed) (ks' ls' : List ℕ) : Type 0 where
  pub gives : Gives m c (nodes ks ls 0) r ks' ls'
  pub fits : Fits r ks' ls'
