-- `node_slots::fill` meets its contract: the slots before the present one are filled.
use Rattle.std.proofs.Common.{ℕ, ◌<◌, ◌≡◌, slice_get, Some}
use Rattle.node_slots.proofs.fill.Given as goal

abbrev pub invariant-loop-slot : goal.invariant-loop-slot
invariant-loop-slot g l = (k : ℕ) → k < l.slot → slice_get l.column k ≡ Some (g.T.Slot.old k)
