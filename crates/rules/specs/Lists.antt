-- Lists of nodes that have numbers, over a builder's append and patch: columns and words have the same.
use Rattle.std.specs.Prelude.{ℕ}
use Rattle.std.proofs.Math.Option.{Option, some, none}
use Rattle.rules.specs.Codes.ParseNode as ParseNode
use Rattle.rules.specs.Reading.{Rule, pure, ◌>>=◌}
use Rattle.rules.specs.Builder.{Builder}

-- the first and the last item of an open list that has some
pub record Ends : Type 0 where
  pub first : ℕ
  pub last : ℕ

module _ {S : Type 0} (append : ℕ → ℕ → Rule S ℕ) (patch : ℕ → ℕ → Rule S (Unit {0})) where
  -- the item p is the list's last: the one before it is patched
  unfoldable pub extended : Option Ends → ℕ → Rule S (Option Ends)
  extended none p = pure (some (record { first = p; last = p }))
  extended (some l) p = do
    _ ← patch l.last p
    pure (some (record { first = l.first; last = p }))

  -- p is the list's end: the item before it is patched. What is linked is the first item, or the end if there is none.
  unfoldable pub ended : Option Ends → ℕ → Rule S ℕ
  ended none p = pure p
  ended (some l) p = do
    _ ← patch l.last p
    pure l.first

  -- An item stands after its content. What follows it in the list is not known then, so that it is made a ListItem only
  -- when the next item or the end of the list has its number (MANUAL.md, Lists).
  unfoldable pub push_list_item : Option Ends → Rule S (Option Ends)
  push_list_item l = do
    p ← append ParseNode.UnpatchedListItem 0
    extended l p

  unfoldable pub push_end_of_list : Option Ends → Rule S ℕ
  push_end_of_list l = do
    p ← append ParseNode.NoMoreItems 0
    ended l p

  -- The builder that appends and patches by these. A node and an item ignore their parts, which were appended before
  -- them; that they stand where the table of parts says is shown by Whole (Ways), of each accepted parse.
  abbrev pub builder : Builder
  builder = record {
    S = S;
    N = ℕ;
    L = Option Ends;
    node = λ kind load parts. append kind load;
    link = append;
    begin = none;
    item = λ l content. push_list_item l;
    close = push_end_of_list;
  }
