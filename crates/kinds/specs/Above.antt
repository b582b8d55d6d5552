-- What is asked of the kinds of a row.
use Rattle.std.specs.Prelude.{◌≡◌, ℕ, Bool, true, not, ◌&&◌, List, [], ◌∷◌, nat_lt}

-- the largest byte without a top bit
abbrev pub most_without_top : ℕ
most_without_top = 127

-- No kind is above the limit.
unfoldable pub none_above : ℕ → List ℕ → Bool
none_above limit [] = true
none_above limit (kind ∷ kinds) = not (nat_lt limit kind) && none_above limit kinds

-- Some bytes are above the same limits as those of a column: the largest of both is the same.
pub record Alike (bytes column : List ℕ) : Type 0 where
  pub same : (limit : ℕ) → none_above limit bytes ≡ none_above limit column
