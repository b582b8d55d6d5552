-- The answers of the code as the rules give them.
use Rattle.std.specs.Prelude.{ℕ, ◌≤◌, Ok, Err, IfOk}
use Rattle.std.proofs.Math.Option.{Option}
use Rattle.codes.specs.declared.Read.{Read}
use Rattle.codes.specs.Answer.{State, ParseResult, reading, token}
use Rattle.nodes.specs.declared.ActiveList.{ActiveList}
use Rattle.nodes.specs.declared.Turn.{Turn}
use Rattle.nodes.specs.declared.Turn.TheVariants.{More}
use Rattle.nodes.specs.Answer.{active, turning}
use Rattle.references.specs.declared.Address.{Address}
use Rattle.rules.specs.Codes.Limit as Limit
use Rattle.rules.specs.Reading.{Rule, Row, Step, ◌>>=◌}
use Rattle.rules.specs.Lists.{Ends}
use Rattle.rules.specs.Words.{Words, words, push_end_of_list}
use Rattle.rules.specs.Expressions.{closed, ampersands, address, deref, step_end, element_end, member}

-- a number of ampersands
abbrev pub depths : ℕ → State → Read ℕ
depths = reading (λ depth. depth)

-- a number of ampersands and a name
abbrev pub address_of : ℕ × ℕ → Address
address_of a = record { depth = a.0; name = token a.1 }

abbrev pub addressed : ℕ × ℕ → State → Read Address
addressed = reading address_of

-- a step more, or the whole list
abbrev pub stepped : Step (Option Ends) (Option Ends) → State → Read (Turn ActiveList)
stepped = turning active

-- the answer of a reader that only ever gives the list with a step more
abbrev pub one_more : ParseResult (Read ActiveList) → ParseResult (Read (Turn ActiveList))
one_more (Ok v) = Ok (record { value = More v.value; cursor = v.cursor; count = v.count })
one_more (Err e) = Err e

-- the rules of any row
unfoldable pub closing : ℕ → ℕ → ℕ → Row → Rule Words ℕ
closing token kind inside row = closed words row token kind inside

unfoldable pub counting : ℕ → Row → Rule Words ℕ
counting start row = ampersands words row start

unfoldable pub addressing : ℕ → Row → Rule Words (ℕ × ℕ)
addressing start row = address words row start

unfoldable pub stepping : Option Ends → ℕ → Row → Rule Words (Step (Option Ends) (Option Ends))
stepping l content row = step_end words row l content

unfoldable pub elementing : Option Ends → ℕ → Row → Rule Words (Step (Option Ends) (Option Ends))
elementing l index row = element_end words row l index

unfoldable pub membering : Option Ends → Row → Rule Words (Step (Option Ends) (Option Ends))
membering l row = member words row l

-- the end of a reference's steps, and its nodes
unfoldable pub deref_end : Option Ends → ℕ → ℕ → ℕ → Rule Words ℕ
deref_end l start depth name = do
  steps ← push_end_of_list l
  deref words start depth name steps

-- a depth, and a depth and a name, fit words
abbrev pub Shallow : ParseResult (Read ℕ) → Type 0
Shallow r = IfOk r (λ v. v.value ≤ Limit.Load)

abbrev pub Near : ParseResult (Read Address) → Type 0
Near r = IfOk r (λ v. (v.value.depth ≤ Limit.Load) × (v.value.name.0 ≤ Limit.Load))
