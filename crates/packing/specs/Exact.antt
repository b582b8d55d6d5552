-- Packing is undone exactly.
use Rattle.std.specs.Prelude.{ℕ, ◌≤◌, ◌<◌, ◌≡◌, Ok}
use Rattle.packing.specs.Answer.{packing, unpacking}
use Rattle.rules.specs.Codes.Limit as Limit

-- unpacking undoes packing, for every kind of a byte and every load that fits
abbrev pub Undone : Type 0
Undone =
    (kind load : ℕ) → kind < 256 → load ≤ Limit.Load →
    (word : ℕ) × (packing kind load ≡ Ok word) × (unpacking word ≡ record { 0 = kind; 1 = load })

-- a word of 32 bits that is unpacked and packed again is the same word
abbrev pub Whole : Type 0
Whole =
    (word : ℕ) → word < 4294967296 → packing (unpacking word).0 (unpacking word).1 ≡ Ok word
