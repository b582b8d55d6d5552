-- What a reader's functions answer, and the reader after them, by the definitions of crate tokens.
use Rattle.std.specs.Prelude.{ℕ, Bool, List, ◌≡◌}
use Rattle.rules.specs.Codes.BaseToken as BaseToken
use Rattle.rules.specs.Words.{Words}
use Rattle.rules.specs.Reading.{ok, Row, Rule, consume, optional, ◌>>=◌}
use Rattle.codes.specs.declared.TokenId.{TokenId}
use Rattle.codes.specs.Answer.{State, ParseResult, token, row as row_of}
use Rattle.codes.specs.Words.{Quiet}
use Rattle.tokens.specs.declared.Taken.{Taken}
use Rattle.tokens.specs.Answer.{kind_in, Taking, consuming}
use Rattle.reader.specs.declared.Tokens.{Tokens}

-- the reader of the same row from another cursor on
abbrev pub moved : Tokens → TokenId → Tokens
moved t c = record { row = t.row; cursor = c }

-- the kinds of the row that is read, and the number of the next token
abbrev pub kinds_of : Tokens → List ℕ
kinds_of t = t.row.kinds.now

abbrev pub place : Tokens → ℕ
place t = t.cursor.0

-- a token that was expected, where the reader has its cursor and the caller the node count
abbrev pub met : Unit {0} → State → Unit {0}
met _ _ = tt

-- a token is looked at: its kind, and the same cursor
pub record Looks (ks : List ℕ) (c : TokenId) (r : Taken) : Type 0 where
  pub kind : r.kind ≡ kind_in ks c.0
  pub cursor : r.cursor ≡ c

-- a token is taken: r is its kind, and t' the reader after it
pub record Takes (t : Tokens) (r : ℕ) (t' : Tokens) : Type 0 where
  pub row : t' ≡ moved t t'.cursor
  pub taken : Taking (kinds_of t) (place t) (record { kind = r; cursor = t'.cursor })

-- a token is taken if it is of this kind: r is whether it was, by the rule's answer and cursor
pub record Tries (t : Tokens) (expected : ℕ) (r : Bool) (t' : Tokens) : Type 0 where
  pub row : t' ≡ moved t t'.cursor
  pub found : ok r ≡ (optional {S = Unit {0}} (row_of (kinds_of t) (kinds_of t)) expected (place t) tt).result
  pub cursor : place t' ≡ (optional {S = Unit {0}} (row_of (kinds_of t) (kinds_of t)) expected (place t) tt).cursor

-- a token of this kind is taken, or its refusal: r is the answer, and the reader goes on from the rule's cursor
pub record Consumes (t : Tokens) (expected count : ℕ) (r : ParseResult (Unit {0})) (t' : Tokens) : Type 0 where
  pub reader :
      t' ≡ moved t (token (consume {S = Unit {0}} (row_of (kinds_of t) (kinds_of t)) expected (place t) tt).cursor)
  pub answer : Quiet met (consuming expected) (kinds_of t) (place t) count r

-- an optional comma, and then a token of this kind
unfoldable pub ending : ℕ → Row → Rule Words (Unit {0})
ending k row = do
  _ ← optional row BaseToken.Comma
  consume row k
