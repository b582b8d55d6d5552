-- A reply in a column of numbers.
use Rattle.std.specs.Prelude.{ℕ, ◌≤◌, ◌<◌, Bool, true, false, List, [], ◌∷◌, ◌++◌, ◌≡◌, length, drop, Ok, Err}
use Rattle.codes.specs.declared.NodeId.{NodeId}
use Rattle.codes.specs.declared.ParsingError.{ParsingError}
use Rattle.codes.specs.declared.Read.{Read}
use Rattle.codes.specs.Answer.{ParseResult}

-- the places of a reply: its case and five numbers
abbrev pub reply_numbers : ℕ
reply_numbers = 6

-- the cases
abbrev pub accepted_case : ℕ
accepted_case = 0

abbrev pub refused_case : ℕ
refused_case = 1

-- the column rs with its first six places anew
abbrev pub placed : List ℕ → List ℕ → List ℕ
placed rs numbers = numbers ++ drop reply_numbers rs

-- the values of a reply in their order, by its case (MANUAL.md, Replies)
abbrev pub accepted : Read NodeId → List ℕ
accepted r = accepted_case ∷ r.value.0 ∷ r.cursor.0 ∷ r.count ∷ 0 ∷ 0 ∷ []

abbrev pub refused : ParsingError → List ℕ
refused e = refused_case ∷ e.number ∷ e.start.0 ∷ e.end.0 ∷ e.cursor.0 ∷ e.count ∷ []

abbrev pub written : List ℕ → ParseResult (Read NodeId) → List ℕ
written rs (Ok r) = placed rs (accepted r)
written rs (Err e) = placed rs (refused e)

-- a word, or the refusal of one: the word stands where an acceptance has its root
abbrev pub written_word : List ℕ → ParseResult ℕ → List ℕ
written_word rs (Ok word) = placed rs (accepted_case ∷ word ∷ 0 ∷ 0 ∷ 0 ∷ 0 ∷ [])
written_word rs (Err e) = placed rs (refused e)

-- There is a reply with the promise P, and it is written to the column by W; nothing else of this column changed.
pub record Given {R : Type 0} (W : List ℕ → R → List ℕ) (P : R → Type 0) (rs rs' : List ℕ) : Type 0 where
  pub reply : R
  pub promised : P reply
  pub numbers : rs' ≡ W rs reply

-- What a function of a library does whose reply has the promise P. The column of the reply is rs before and rs' after.
-- The result, done, says whether there were enough places; where there were not, nothing was written (Kept).
pub record Replied {R : Type 0} (W : List ℕ → R → List ℕ) (P : R → Type 0) (Kept : Type 0) (rs : List ℕ) (done : Bool)
    (rs' : List ℕ) : Type 0 where
  pub given : reply_numbers ≤ length rs → (done ≡ true) × Given W P rs rs'
  pub short : length rs < reply_numbers → (done ≡ false) × Kept × (rs' ≡ rs)
