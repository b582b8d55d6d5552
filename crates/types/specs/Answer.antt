-- The answers of the code as the rules give them.
use Rattle.std.specs.Prelude.{ℕ, ◌+◌, ◌≤◌, true, false, ◌≡◌, List, [], ◌∷◌, eqb, Ok, Err, Some, is_some}
use Rattle.std.specs.Prelude.{Option as Optional}
use Rattle.codes.specs.declared.Node.{Node}
use Rattle.codes.specs.declared.Read.{Read}
use Rattle.codes.specs.Answer.{State, ParseResult, reading, row, state, token}
use Rattle.codes.specs.Words.{Gives, Sized, nodes}
use Rattle.tokens.specs.Answer.{kind_in}
use Rattle.types.specs.declared.Start.{Start}
use Rattle.types.specs.declared.Start.TheVariants.{Leaf, Around}
use Rattle.rules.specs.Codes.{pick, lookup, ◌⇒◌}
use Rattle.rules.specs.Codes.BaseToken as BaseToken
use Rattle.rules.specs.Codes.Limit as Limit
use Rattle.rules.specs.Codes.ParseNode as ParseNode
use Rattle.rules.specs.Reading.{Rule, Row, ◌>>=◌, consume}
use Rattle.rules.specs.Words.{Words, append, words}
use Rattle.rules.specs.Types.{bracketed, inner_from}

-- the node of this kind and load
abbrev pub node : ℕ × ℕ → Node
node a = record { 0 = a.0; 1 = a.1 }

-- an array type's kind and load
abbrev pub sized : ℕ × ℕ → State → Read Node
sized = reading node

-- the closing bracket after a size, of any row
unfoldable pub closing : ℕ → ℕ → Row → Rule Words (ℕ × ℕ)
closing kind load row = bracketed words row kind load

-- what follows an element type: a view's closing parenthesis, and the node
unfoldable pub finishing : List ℕ → ℕ → ℕ → Rule Words ℕ
finishing kinds kind load =
    pick (eqb kind ParseNode.ViewVT)
    (consume (row kinds kinds) BaseToken.ParenRight >>= λ _. append kind load)
    (append kind load)

-- an element type of a single token, by its node, and what follows it
unfoldable pub enclosing : List ℕ → ℕ → ℕ → ℕ → ℕ → Rule Words ℕ
enclosing kinds elementKind elementLoad kind load = do
  _ ← append elementKind elementLoad
  finishing kinds kind load

-- Whatever the rule for its element type and the node words are, an inner type at the cursor c and with so many nodes
-- goes on as the rule m at p and with j nodes. What every reader takes for granted holds there if it holds at c, and
-- the load of the type's node fits a word.
pub record Onward (kinds types : List ℕ) (c count load : ℕ) (m : Rule Words ℕ → Rule Words ℕ) (p j : ℕ) : Type 0 where
  pub same :
      (element : Rule Words ℕ) (ks : List ℕ) →
      inner_from words (row kinds types) element c (nodes ks count) ≡ m element p (nodes ks j)
  pub sized : (ks : List ℕ) → Sized kinds types ks c count → Sized kinds types ks p j
  pub fits : c ≤ Limit.Tokens → load ≤ Limit.Load

-- how an inner type goes on after its start
abbrev pub Started : List ℕ → List ℕ → ℕ → ℕ → Start → State → Type 0
Started kinds types c count (Leaf n) s =
    Onward kinds types c count n.1 (λ _. append n.0 n.1) s.cursor.0 s.count
Started kinds types c count (Around n) s =
    Onward kinds types c count n.1 (λ element. element >>= λ _. finishing kinds n.0 n.1) s.cursor.0 s.count

-- or is refused
unfoldable pub Starts : List ℕ → List ℕ → ℕ → ℕ → ParseResult (Read Start) → Type 0
Starts kinds types c count (Ok r) = Started kinds types c count r.value (state r.cursor r.count)
Starts kinds types c count (Err e) =
    (element : Rule Words ℕ) (ks : List ℕ) →
    Gives (inner_from words (row kinds types) element) c (nodes ks count) (Err e) ks

-- Whether an inner type is of a single token, by its kind; and if so, it starts with this node.
pub record Shorts (kinds types : List ℕ) (c : ℕ) (r : Optional Node) : Type 0 where
  pub is :
      is_some r ≡
      lookup (kind_in kinds c) (BaseToken.ValueTypeKeyword ⇒ true ∷ BaseToken.Identifier ⇒ true ∷ []) false
  pub starts :
      {n : Node} → r ≡ Some n → (count : ℕ) →
      Starts kinds types c count (Ok (record { value = Leaf n; cursor = token (c + 1); count = count }))

-- the span of a type, by its first token and the one after it
unfoldable pub spanning : ℕ → ℕ → Rule Words ℕ
spanning start end = do
  _ ← append ParseNode.EndOfSpan end
  append ParseNode.CompositeValueType start
