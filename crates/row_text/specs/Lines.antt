-- The lines of a text, and what comes of showing them in turn.
use Rattle.std.specs.Prelude.{ℕ, List, [], ◌∷◌, ◌≡◌, cond, eqb}
use Rattle.std.specs.Prelude.{Result, Ok, Err, MatchResult}
use Rattle.std.specs.Borrow.{Bor}
use Rattle.std.specs.Fn.{Mut, CalledAt}

-- the byte that ends a line
abbrev pub line_end : ℕ
line_end = 10

-- a line without the byte that ends it, if it has one
abbrev pub without_end : List ℕ → List ℕ
without_end [] = []
without_end (byte ∷ []) = cond (eqb byte line_end) [] (byte ∷ [])
without_end (byte ∷ next ∷ line) = byte ∷ without_end (next ∷ line)

-- the first of these lines begins with the byte; where there is none, the byte is one
abbrev pub begun : ℕ → List (List ℕ) → List (List ℕ)
begun byte [] = (byte ∷ []) ∷ []
begun byte (line ∷ lines) = (byte ∷ line) ∷ lines

-- the lines of a text, without what ends them
abbrev pub lines : List ℕ → List (List ℕ)
lines [] = []
lines (byte ∷ text) = cond (eqb byte line_end) ([] ∷ lines text) (begun byte (lines text))

module _ {F E : Type 0} (g : Mut F (Bor (List ℕ) × Unit {0}) (Result (Unit {0}) E)) where
  -- Each line is given to a call, in turn, until one fails; the result is that failure, or there is none.
  abbrev pub Shows : F → List (List ℕ) → Result (Unit {0}) E → Type 0
  Shows show [] result = result ≡ Ok tt
  Shows show (line ∷ lines) result = (answer : Result (Unit {0}) E) × (next : F)
      × CalledAt g show line answer next × MatchResult answer (λ _. Shows next lines result) (λ e. result ≡ Err e)
