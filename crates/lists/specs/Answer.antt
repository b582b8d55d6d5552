-- The answers of the code as the rules give them.
use Rattle.std.specs.Prelude.{ℕ, ◌≤◌}
use Rattle.std.proofs.Math.Option.{Option}
use Rattle.codes.specs.declared.Read.{Read}
use Rattle.codes.specs.Answer.{State}
use Rattle.nodes.specs.declared.Turn.{Turn}
use Rattle.nodes.specs.Answer.{active, ends, turning}
use Rattle.lists.specs.declared.Owner.{Owner as Code}
use Rattle.lists.specs.declared.Owner.TheVariants.{Call, Elements}
use Rattle.lists.specs.declared.CountedList.{CountedList}
use Rattle.rules.specs.Codes.BaseToken as BaseToken
use Rattle.rules.specs.Codes.ParseNode as ParseNode
use Rattle.rules.specs.Codes.Limit as Limit
use Rattle.rules.specs.Reading.{Rule, Row, Step, done, ◌>>=◌, pure, consume}
use Rattle.rules.specs.Lists.{Ends}
use Rattle.rules.specs.Words.{Words, words, append, push_end_of_list}
use Rattle.rules.specs.Expressions.{Owner, call, elements, separator, item_end, name_alone}

-- what a list of expressions belongs to
abbrev pub owner_of : Code → Owner
owner_of (Call name builtin) = call name.0 builtin
owner_of Elements = elements

-- an open list's first and last item, and the number of its items
abbrev pub Counted : Type 0
Counted = Option Ends × ℕ

abbrev pub counted : CountedList → Counted
counted l = (ends l.list, l.items)

abbrev pub counted_list : Counted → CountedList
counted_list l = record { list = active l.0; items = l.1 }

-- a list to which an item may be added, or the whole list
abbrev pub turned : Step Counted Counted → State → Read (Turn CountedList)
turned = turning counted_list

-- the rules of any row
unfoldable pub closing_with : ℕ → Counted → Row → Rule Words (Step Counted Counted)
closing_with closing l row = do
  _ ← consume row closing
  pure (done l)

unfoldable pub separating : ℕ → Counted → Row → Rule Words (Step Counted Counted)
separating closing l row = separator words row closing l

unfoldable pub ending : ℕ → Counted → ℕ → Row → Rule Words (Step Counted Counted)
ending closing l content row = item_end words row closing l content

-- after a field's expression e
unfoldable pub field_end : Counted → ℕ → ℕ → Row → Rule Words (Step Counted Counted)
field_end l name e row = do
  content ← append ParseNode.IdentifierAndExpression name
  item_end words row BaseToken.BraceRight l content

-- after a field that is a name alone, which stands for `name: name` (MANUAL.md, Lists)
unfoldable pub shorthand_end : Counted → ℕ → Row → Rule Words (Step Counted Counted)
shorthand_end l name row = do
  e ← name_alone words name
  field_end l name e row

-- the end of a list, and the link to it
unfoldable pub linking : Option Ends → Rule Words ℕ
linking l = do
  t ← push_end_of_list l
  append ParseNode.List t

-- what a list belongs to fits words
abbrev pub Small : Code → Type 0
Small (Call name builtin) = (name.0 ≤ Limit.Load) × (builtin ≤ Limit.Load)
Small Elements = Unit {0}
