-- `lines::value_of` meets its contract: the value is that of the digits that were read, and it is not too large yet.
use Rattle.std.proofs.Common.{◌≡◌, ◌≤◌, ◌+◌, take, drop}
use Rattle.lines.specs.Numbers.{value_of, read_until}
use Rattle.lines.proofs.value_of.Given as goal

abbrev pub invariant-loop-place : goal.invariant-loop-place
invariant-loop-place l = record {
  value : l.value ≡ value_of (take l.place l.digits);
  within : l.value ≤ l.most;
  left : read_until l.most 0 l.digits ≡ l.place + read_until l.most l.value (drop l.place l.digits);
}
