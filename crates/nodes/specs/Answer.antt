-- The answers of the code as the rules give them.
use Rattle.std.specs.Prelude.{ℕ, ◌+◌, ◌≤◌, max, List, length}
use Rattle.std.proofs.Math.Option.{Option, some, none}
use Rattle.codes.specs.declared.Read.{Read}
use Rattle.codes.specs.Answer.{State, node_id, reading}
use Rattle.nodes.specs.declared.ActiveList.{ActiveList}
use Rattle.nodes.specs.declared.ActiveList.TheVariants.{Empty, Open}
use Rattle.nodes.specs.declared.Turn.{Turn}
use Rattle.nodes.specs.declared.Turn.TheVariants.{More, Last}
use Rattle.rules.specs.Codes.Limit as Limit
use Rattle.rules.specs.Reading.{Rule, Step, again, done, ◌>>=◌}
use Rattle.rules.specs.Lists.{Ends}
use Rattle.rules.specs.Words.{Words, append}

-- What is taken for granted of the node column and of the node count.
pub record WithinSlots (ws : List ℕ) (count : ℕ) : Type 0 where
  pub slots : length ws ≤ Limit.Slots
  pub used : count ≤ length ws

-- an open list's first and last item
abbrev pub ends : ActiveList → Option Ends
ends Empty = none
ends (Open f l) = some (record { first = f.0; last = l.0 })

abbrev pub active : Option Ends → ActiveList
active none = Empty
active (some e) = Open (node_id e.first) (node_id e.last)

-- a list with one item more
abbrev pub listed : Option Ends → State → Read ActiveList
listed = reading active

-- a turn of a loop; f gives what it holds as the code has it
abbrev pub turn_of : {A T : Type 0} → (A → T) → Step A A → Turn T
turn_of f (again a) = More (f a)
turn_of f (done a) = Last (f a)

abbrev pub turning : {A T : Type 0} → (A → T) → Step A A → State → Read (Turn T)
turning f = reading (turn_of f)

-- the place after an open list's items, 0 where it has none
unfoldable pub past : ActiveList → ℕ
past Empty = 0
past (Open f l) = max f.0 l.0 + 1

-- two nodes, of which the second one is what is read
unfoldable pub append_two : ℕ → ℕ → ℕ → ℕ → Rule Words ℕ
append_two kind load kind' load' = do
  _ ← append kind load
  append kind' load'
