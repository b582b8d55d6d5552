-- The rules that the code equals, of any row, and what ends several of them.
use Rattle.std.specs.Prelude.{ℕ}
use Rattle.std.proofs.Math.Option.{Option, none}
use Rattle.rules.specs.Codes.BaseToken as BaseToken
use Rattle.rules.specs.Codes.ParseNode as ParseNode
use Rattle.rules.specs.Reading.{Rule, Row, Step, ◌>>=◌, consume}
use Rattle.rules.specs.Lists.{Ends}
use Rattle.rules.specs.Words.{Words, words, append, push_end_of_list}
use Rattle.rules.specs.Types.{type}
use Rattle.rules.specs.Declarations.{opaque, structure, constant_end, colon, value, member_end, members}

unfoldable pub coloned : ℕ → Row → Rule Words (Unit {0})
coloned number row = colon words row number

-- a name and a colon
unfoldable pub named : ℕ → Row → Rule Words (Unit {0})
named number row = do
  _ ← consume row BaseToken.Identifier
  colon words row number

-- what follows the colon of the member at a name: its type, and its node
unfoldable pub member_typed : ℕ → ℕ → Row → Rule Words ℕ
member_typed unused name row = do
  _ ← type words row unused
  append ParseNode.IdentifierAndType name

unfoldable pub member_ending : Option Ends → ℕ → Row → Rule Words (Step (Option Ends) (Option Ends))
member_ending l t row = member_end words row l t

-- the last nodes of a declaration: its name, its flags and itself
unfoldable pub declaring : ℕ → ℕ → ℕ → ℕ → Rule Words ℕ
declaring kind start flags name = do
  _ ← append ParseNode.Identifier name
  _ ← append ParseNode.DeclarationFlags flags
  append kind start

-- what follows the name of a struct or word with members, and of a struct with none
unfoldable pub structured : ℕ → ℕ → ℕ → ℕ → ℕ → Row → Rule Words ℕ
structured unused start flags size name row = do
  l ← members words row unused
  structure words start flags size name l

unfoldable pub opaque_struct : ℕ → ℕ → ℕ → Rule Words ℕ
opaque_struct start flags name = do
  l ← push_end_of_list none
  structure words start (opaque flags) 0 name l

-- what follows the name and the type t of a constant
unfoldable pub valued : ℕ → ℕ → ℕ → ℕ → ℕ → Row → Rule Words ℕ
valued unused start flags name t row = do
  e ← value words row unused
  constant_end words start flags name t e
