-- What each public entry promises, for every input.
use Rattle.std.specs.Prelude.{ℕ, ◌+◌, ◌≤◌, ◌<◌, ◌≢◌, ◌≡◌, List, length, Ok, Err}
use Rattle.std.proofs.Math.Option.{none}
use Rattle.codes.specs.declared.NodeId.{NodeId}
use Rattle.codes.specs.declared.ParsingError.{ParsingError}
use Rattle.codes.specs.declared.Read.{Read}
use Rattle.codes.specs.Answer.{ParseResult, Gives, count_of, nodes}
use Rattle.rules.specs.Codes.Refusal as Refusal
use Rattle.rules.specs.Codes.Limit as Limit
use Rattle.rules.specs.Reading.{Rule, Row, ok, no}
use Rattle.rules.specs.Trees.{Tree, trees}
use Rattle.rules.specs.Columns.{Nodes, columns}
use Rattle.rules.specs.Frame.{Frame}
use Rattle.rules.specs.Places.{Placed}
use Rattle.rules.specs.Ways.{Whole}
use Rattle.rules.specs.Types.{type}
use Rattle.rules.specs.Expressions.{expression}
use Rattle.rules.specs.Declarations.{constant, struct, word}
use Rattle.checks.specs.Checks.{Check, checked, input_check, declaration_check, word_declaration_check}

-- A reply: the root node and the state where the entry accepts, and else the refusal.
abbrev pub Parsed : Type 0
Parsed = ParseResult (Read NodeId)

-- the cursor of a reply
abbrev pub cursor_of : Parsed → ℕ
cursor_of (Ok read) = read.cursor.0
cursor_of (Err refusal) = refusal.cursor.0

-- Demand 3 of an accepted parse in a row of so many tokens: the rule q with trees, from the given cursor c, reads the
-- tree that stands along the ways from the root in the columns s at exit, and takes the same tokens.
pub record Accepted (tokens : ℕ) (q : Rule (Unit {0}) Tree) (c given : ℕ) (s : Nodes) (root cursor : ℕ) : Type 0 where
  pub tree : Tree
  pub read : (q c tt).result ≡ ok tree
  pub taken : (q c tt).cursor ≡ cursor
  pub whole : Whole s given root tree
  pub last : root + 1 ≡ s.count
  -- the last token, EndOfSource, is never taken
  pub inside : cursor < tokens

-- The rule q with trees refuses with the same number, start, end and cursor.
pub record Refuses (q : Rule (Unit {0}) Tree) (c number start end cursor : ℕ) : Type 0 where
  pub refused : (q c tt).result ≡ no number start end
  pub at : (q c tt).cursor ≡ cursor

-- An entry with the check e, the rule m with columns and q with trees replies r from the cursor c in a row of so many
-- tokens and the columns o, and leaves the columns ks (kinds) and ls (loads).
pub record Promise (tokens : ℕ) (e : Check) (m : Rule Nodes ℕ) (q : Rule (Unit {0}) Tree) (c : ℕ) (o : Nodes)
    (r : Parsed) (ks ls : List ℕ) : Type 0 where
  -- the reply and every slot equal the definition
  pub equal : Gives (checked e m) c o r ks ls
  -- no node below the given count changed, and none from the replied count on
  pub frame : Frame o (nodes ks ls (count_of r))
  pub accepted :
      (read : Read NodeId) → r ≡ Ok read →
      Accepted tokens q c o.count (nodes ks ls read.count) read.value.0 read.cursor.0
  -- a refusal while parsing, unless the slots are used up
  pub refused :
      e ≡ none → (refusal : ParsingError) → r ≡ Err refusal → refusal.number ≢ Refusal.NoSlot →
      Refuses q c refusal.number refusal.start.0 refusal.end.0 refusal.cursor.0
  -- a refusal has a number of document 01's list, and its start, end, cursor and count go together as that wants
  pub placed :
      (refusal : ParsingError) → r ≡ Err refusal →
      Placed c o refusal.number refusal.start.0 refusal.end.0 refusal.cursor.0 refusal.count
  -- after a parse the cursor is at most the token count
  pub within : e ≡ none → cursor_of r ≤ tokens

module _ (row : Row) (c : ℕ) (o : Nodes) where
  -- An entry over the row, from the cursor c and the columns o; its check takes the slots of both columns and the
  -- count.
  abbrev entry :
      (ℕ → ℕ → ℕ → Check) → Rule Nodes ℕ → Rule (Unit {0}) Tree → Parsed → List ℕ → List ℕ → Type 0
  entry e m q = Promise (length row.kinds) (e (length o.kinds) (length o.loads) o.count) m q c o

  abbrev pub Expression : Parsed → List ℕ → List ℕ → Type 0
  Expression =
      entry (input_check row c) (expression columns row Limit.Nesting) (expression trees row Limit.Nesting)

  abbrev pub Type' : Parsed → List ℕ → List ℕ → Type 0
  Type' = entry (input_check row c) (type columns row Limit.Nesting) (type trees row Limit.Nesting)

  module _ (start flags : ℕ) where
    abbrev pub Constant : Parsed → List ℕ → List ℕ → Type 0
    Constant =
        entry (λ slots loads count. declaration_check row c slots loads count start flags)
        (constant columns row Limit.Nesting start flags)
        (constant trees row Limit.Nesting start flags)

    abbrev pub Struct : Parsed → List ℕ → List ℕ → Type 0
    Struct =
        entry (λ slots loads count. declaration_check row c slots loads count start flags)
        (struct columns row Limit.Nesting start flags)
        (struct trees row Limit.Nesting start flags)

    abbrev pub Word : ℕ → Parsed → List ℕ → List ℕ → Type 0
    Word kind =
        entry (λ slots loads count. word_declaration_check row c slots loads count start flags kind)
        (word columns row Limit.Nesting start flags kind)
        (word trees row Limit.Nesting start flags kind)
