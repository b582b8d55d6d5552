-- The frame of a call as the program looks at it: what a slot holds before it, and which slots must hold it after.
use Rattle.std.specs.Prelude.{ℕ, ◌+◌, ◌%◌, ◌<◌, Bool, true, false, List, ◌≡◌, length, slice_get, Some, ltb}
use Rattle.std.specs.List.{list_all, enumerate_from}
use Rattle.rules.specs.Codes.{pick}

-- what a slot of the kinds and of the loads holds before the call
abbrev pub old_kind : ℕ → ℕ
old_kind slot = 128 + slot % 128

abbrev pub old_load : ℕ → ℕ
old_load slot = 4000000000 + slot

-- the slots of a column hold it
pub record Filled {T : Type 0} (old : ℕ → T) (column : List T) : Type 0 where
  pub each : (slot : ℕ) → slot < length column → slice_get column slot ≡ Some (old slot)

-- a slot that holds what it held before, or one from the given count up to the replied one
abbrev pub kept_slot : Bool → ℕ → ℕ → ℕ → Bool
kept_slot same slot given replied = pick same true (pick (ltb slot given) false (ltb slot replied))

-- each slot of a column
abbrev pub kept : {T : Type 0} → (T → T → Bool) → (ℕ → T) → List T → ℕ → ℕ → Bool
kept same old column given replied =
    list_all (λ p. kept_slot (same p.1 (old p.0)) p.0 given replied) (enumerate_from 0 column)
