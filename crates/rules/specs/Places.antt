-- The refusals of document 01's list by number, and how start, end, cursor and count go together in each (MANUAL.md,
-- Refusals).
use Rattle.std.specs.Prelude.{ℕ, ◌+◌, ◌≡◌, [], ◌∷◌, length}
use Rattle.rules.specs.Codes.{lookup, ◌⇒◌}
use Rattle.rules.specs.Codes.Refusal as Refusal
use Rattle.rules.specs.Columns.{Nodes}

-- where a refusal stands
pub data Place : Type 0 where
  -- before the parse: at no token, or at one of the row
  input token : Place
  -- in the parse: at a token that was taken, or at one that was not
  taken untaken : Place
  -- at the cursor, where no slot was left
  full : Place
  -- from a token up to the cursor
  span : Place
  -- nowhere: the number is none of the list
  unlisted : Place

abbrev pub place_of : ℕ → Place
place_of number = lookup number
    (Refusal.BadRow ⇒ input
    ∷ Refusal.BadToken ⇒ token
    ∷ Refusal.NoEndOfSource ⇒ token
    ∷ Refusal.ExpectedAssignment ⇒ taken
    ∷ Refusal.ExpectedBraceLeft ⇒ taken
    ∷ Refusal.ExpectedBraceRight ⇒ taken
    ∷ Refusal.ExpectedBracketRight ⇒ taken
    ∷ Refusal.ExpectedParenLeft ⇒ taken
    ∷ Refusal.ExpectedParenRight ⇒ taken
    ∷ Refusal.ExpectedPipe ⇒ taken
    ∷ Refusal.ExpectedSemicolon ⇒ taken
    ∷ Refusal.ExpectedIdentifier ⇒ taken
    ∷ Refusal.ExpectedArraySize ⇒ taken
    ∷ Refusal.ExpectedType ⇒ taken
    ∷ Refusal.ExpectedPrimary ⇒ taken
    ∷ Refusal.MissingConstantType ⇒ untaken
    ∷ Refusal.MissingMemberType ⇒ untaken
    ∷ Refusal.MaximumParseDepthExceeded ⇒ span
    ∷ Refusal.ExpectedComma ⇒ taken
    ∷ Refusal.BadCursor ⇒ input
    ∷ Refusal.BadColumns ⇒ input
    ∷ Refusal.BadCount ⇒ input
    ∷ Refusal.NoSlot ⇒ full
    ∷ Refusal.NestingExceeded ⇒ untaken
    ∷ Refusal.BadFlags ⇒ input
    ∷ Refusal.BadWordKind ⇒ input
    ∷ [])
    unlisted

-- from the given cursor and the given nodes
module _ (given : ℕ) (o : Nodes) where
  -- the start, end, cursor and count of a refusal that stands there
  abbrev pub HasPlace : Place → ℕ → ℕ → ℕ → ℕ → Type 0
  HasPlace input start end cursor count = (start ≡ 0) × (end ≡ start) × (cursor ≡ given) × (count ≡ o.count)
  HasPlace token start end cursor count = (end ≡ start) × (cursor ≡ given) × (count ≡ o.count)
  HasPlace taken start end cursor count = (end ≡ start) × (cursor ≡ start + 1)
  HasPlace untaken start end cursor count = (end ≡ start) × (cursor ≡ start)
  HasPlace full start end cursor count = (end ≡ start) × (cursor ≡ start) × (count ≡ length o.kinds)
  HasPlace span start end cursor count = cursor ≡ end
  HasPlace unlisted start end cursor count = ⊥

  -- A refusal's number is of the list, and its start, end, cursor and count go together as that number wants.
  abbrev pub Placed : ℕ → ℕ → ℕ → ℕ → ℕ → Type 0
  Placed number = HasPlace (place_of number)
