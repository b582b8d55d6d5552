-- A line of text, and its parts.
use Rattle.std.specs.Prelude.{ℕ, ◌-◌, ◌≤◌, ◌<◌, Bool, false, not, cond, List, [], ◌∷◌, ◌++◌, ◌≡◌, ◌≢◌, eqb, length}
use Rattle.std.specs.Prelude.{get_or, take, drop, Option, None, Some}

-- a line that is not empty and does not begin with `#`
abbrev pub is_row : List ℕ → Bool
is_row line = cond (eqb (length line) 0) false (not (eqb (get_or line 0 0) 35))

-- the rest is the end of the line
pub record Within (line rest : List ℕ) : Type 0 where
  pub shorter : length rest ≤ length line
  pub end : rest ≡ drop (length line - length rest) line

-- the byte stands nowhere in the line
pub record Lacks (line : List ℕ) (byte : ℕ) : Type 0 where
  pub each : (k : ℕ) → k < length line → get_or line k 0 ≢ byte

-- the line is what stands before its first such byte, the byte, and what stands after it
pub record Parted (line : List ℕ) (byte : ℕ) (before after : List ℕ) : Type 0 where
  pub whole : line ≡ before ++ byte ∷ after
  pub first : Lacks before byte

abbrev pub space : ℕ
space = 32

-- from one place up to another there are only spaces
pub record Spaces (line : List ℕ) (from to : ℕ) : Type 0 where
  pub each : (k : ℕ) → k < to → from ≤ k → get_or line k 0 ≡ space

-- the end of the line after the spaces at its beginning
pub record Skipped (line rest : List ℕ) : Type 0 where
  pub within : Within line rest
  pub spaces : Spaces line 0 (length line - length rest)
  pub found : 0 < length rest → get_or rest 0 0 ≢ space

-- the beginning of the line before the spaces at its end
pub record Trimmed (line front : List ℕ) : Type 0 where
  pub within : front ≡ take (length front) line
  pub spaces : Spaces line (length front) (length line)
  pub found : 0 < length front → get_or front (length front - 1) 0 ≢ space

-- what stands after a name, if the line begins with it
abbrev pub after_name : List ℕ → List ℕ → Option (List ℕ)
after_name line [] = Some line
after_name [] (letter ∷ letters) = None
after_name (byte ∷ rest) (letter ∷ letters) = cond (eqb byte letter) (after_name rest letters) None
