-- A check's answer in the code, and what is known of a row that is called good.
use Rattle.std.specs.Prelude.{◌≤◌, Bool, true, ◌≡◌, length, Result, Ok, Err}
use Rattle.std.proofs.Math.Option.{some, none}
use Rattle.rules.specs.Codes.Limit as Limit
use Rattle.rules.specs.Reading.{Row}
use Rattle.checks.specs.declared.Failed.{Failed}
use Rattle.checks.specs.Checks.{Check, last_check, row_check}

abbrev pub Checked : Type 0
Checked = Result (Unit {0}) Failed

abbrev pub check_of : Checked → Check
check_of (Ok _) = none
check_of (Err failed) = some (failed.number, failed.start.0)

-- Where a row is called good, its size and its tokens pass: only the last token is left to check.
pub record Good (good : Bool) (row : Row) : Type 0 where
  pub some : good ≡ true → 1 ≤ length row.kinds
  pub few : good ≡ true → length row.kinds ≤ Limit.Tokens
  pub checked : good ≡ true → row_check row ≡ last_check row
