-- A list of integers, by the rules: what the code that appends it answers and leaves.
use Rattle.std.specs.Prelude.{ℕ, zero, suc, ◌+◌, ◌≤◌, List, ◌≡◌, Ok, Err}
use Rattle.std.proofs.Math.Option.{Option}
use Rattle.rules.specs.Codes.ParseNode as ParseNode
use Rattle.rules.specs.Reading.{Rule, ◌>>=◌}
use Rattle.rules.specs.Lists.{Ends}
use Rattle.rules.specs.Words.{Words, append, push_list_item, push_end_of_list}
use Rattle.codes.specs.declared.Read.{Read}
use Rattle.codes.specs.Answer.{ParseResult}
use Rattle.codes.specs.Words.{As, nodes}
use Rattle.nodes.specs.declared.ActiveList.{ActiveList}
use Rattle.nodes.specs.Answer.{WithinSlots, ends, listed, past}

-- an item: its content, an integer that is this token, and the item
unfoldable pub item : ℕ → Option Ends → Rule Words (Option Ends)
item token l = do
  _ ← append ParseNode.UntypedIntegerLiteral token
  push_list_item l

-- so many items from this token on, and the list's end
unfoldable pub items : ℕ → ℕ → Option Ends → Rule Words ℕ
items zero token l = push_end_of_list l
items (suc n) token l = do
  m ← item token l
  items n (token + 1) m

-- what the core takes for granted of a list and the count
pub record Fits (l : Read ActiveList) (ws : List ℕ) : Type 0 where
  pub slots : WithinSlots ws l.count
  pub last : past l.value ≤ l.count

-- an item's answer r, and the words after it, in which another item fits
pub record Item (token : ℕ) (l : Read ActiveList) (ws : List ℕ)
    (r : ParseResult (Read ActiveList)) (ws' : List ℕ) : Type 0 where
  pub answer : As listed (item token (ends l.value)) l.cursor.0 (nodes ws l.count) r ws'
  pub fits : {v : Read ActiveList} → r ≡ Ok v → Fits v ws'

-- an answer with another form of a list, by what each is as a list with the cursor and the count
abbrev pub seen :
    {L : Type 0} → (L → Read ActiveList) → ParseResult L → ParseResult (Read ActiveList)
seen f (Ok l) = Ok (f l)
seen f (Err e) = Err e
