-- The answers of the readers, which write words, as the rules give them.
use Rattle.std.specs.Prelude.{ℕ, ◌≤◌, ◌≡◌, List, length}
use Rattle.codes.specs.declared.NodeId.{NodeId}
use Rattle.codes.specs.declared.Read.{Read}
use Rattle.codes.specs.Answer.{State}
use Rattle.codes.specs.Answer.{ParseResult, answer, parsed, row}
use Rattle.rules.specs.Codes.Limit as Limit
use Rattle.rules.specs.Reading.{Rule, Row}
use Rattle.rules.specs.Words.{Words}

-- the nodes in this column
abbrev pub nodes : List ℕ → ℕ → Words
nodes ws k = record { words = ws; count = k }

-- The answer r and the column ws are what the rule m gives from the cursor c and the nodes s.
pub record As {A T : Type 0} (f : A → State → T) (m : Rule Words A) (c : ℕ) (s : Words) (r : ParseResult T)
    (ws : List ℕ) : Type 0 where
  pub reply : r ≡ answer f (m c s).result (m c s).cursor (m c s).state.count
  pub words : ws ≡ (m c s).state.words

-- the same of a rule that reads a node
abbrev pub Gives : Rule Words ℕ → ℕ → Words → ParseResult (Read NodeId) → List ℕ → Type 0
Gives = As parsed

-- The same of a reader that does not look at a part of the row: of each of these rows.
pub record Across {X A T : Type 0} (rows : X → Row) (f : A → State → T) (m : Row → Rule Words A) (c : ℕ) (s : Words)
    (r : ParseResult T) (ws : List ℕ) : Type 0 where
  pub run : (x : X) → As f (m (rows x)) c s r ws

-- whatever the value types are, the kinds, or both
abbrev pub Untyped :
    {A T : Type 0} → (A → State → T) → (Row → Rule Words A) → List ℕ → ℕ → Words → ParseResult T → List ℕ → Type 0
Untyped f m kinds = Across (row kinds) f m

abbrev pub Unkinded :
    {A T : Type 0} → (A → State → T) → (Row → Rule Words A) → List ℕ → ℕ → Words → ParseResult T → List ℕ → Type 0
Unkinded f m types = Across (λ kinds. row kinds types) f m

abbrev pub Unread :
    {A T : Type 0} → (A → State → T) → (Row → Rule Words A) → ℕ → Words → ParseResult T → List ℕ → Type 0
Unread f m = Across (λ (at : Row). at) f m

-- The same of a reader that appends nothing and reads no value type: whatever these and the column are.
pub record Quiet {A T : Type 0} (f : A → State → T) (m : Row → Rule Words A) (kinds : List ℕ) (c count : ℕ)
    (r : ParseResult T) : Type 0 where
  pub run : (types ws : List ℕ) → As f (m (row kinds types)) c (nodes ws count) r ws

-- What every reader takes for granted of the row's kinds ks and value types vs, of the node column ws, and of its
-- cursor, which may stand just past the last token, and the node count. The entries refuse all else.
pub record Sized (ks vs ws : List ℕ) (cursor count : ℕ) : Type 0 where
  pub types : length vs ≡ length ks
  pub tokens : length ks ≤ Limit.Tokens
  pub at : cursor ≤ length ks
  pub slots : length ws ≤ Limit.Slots
  pub used : count ≤ length ws
