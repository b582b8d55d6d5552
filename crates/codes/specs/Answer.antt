-- The answers of the code as the rules give them.
use Rattle.std.specs.Prelude.{ℕ, ◌≡◌, List, Ok, Err}
use Rattle.std.specs.Prelude.{Result as Fallible}
use Rattle.codes.specs.declared.Read.{Read}
use Rattle.codes.specs.declared.ParsingError.{ParsingError}
use Rattle.codes.specs.declared.NodeId.{NodeId}
use Rattle.codes.specs.declared.TokenId.{TokenId}
use Rattle.rules.specs.Reading.{Rule, Result, ok, no, Row}
use Rattle.rules.specs.Columns.{Nodes}

-- the token and the node with this number
abbrev pub token : ℕ → TokenId
token n = record { 0 = n }

abbrev pub node_id : ℕ → NodeId
node_id n = record { 0 = n }

-- the row and the nodes in these columns
abbrev pub row : List ℕ → List ℕ → Row
row ks vs = record { kinds = ks; types = vs }

abbrev pub nodes : List ℕ → List ℕ → ℕ → Nodes
nodes ks ls k = record { kinds = ks; loads = ls; count = k }

-- where a reader stands: its cursor, and how many nodes there are
pub record State : Type 0 where
  pub cursor : TokenId
  pub count : ℕ

abbrev pub state : TokenId → ℕ → State
state cursor count = record { cursor = cursor; count = count }

-- how a reader answers: by what was read, or by a refusal
abbrev pub ParseResult : Type 0 → Type 0
ParseResult T = Fallible T ParsingError

-- the values of a refusal (MANUAL.md, Replies)
abbrev pub refusal : ℕ → ℕ → ℕ → ℕ → ℕ → ParsingError
refusal number start end cursor count =
    record { number = number; cursor = token cursor; count = count; start = token start; end = token end }

-- the node count of a reply
abbrev pub count_of : ParseResult (Read NodeId) → ℕ
count_of (Ok read) = read.count
count_of (Err refusal) = refusal.count

-- what was read, by its value as the code has it, and the state then
abbrev pub reading : {A T : Type 0} → (A → T) → A → State → Read T
reading f a s = record { value = f a; cursor = s.cursor; count = s.count }

-- the values of an acceptance (MANUAL.md, Replies)
abbrev pub parsed : ℕ → State → Read NodeId
parsed = reading node_id

-- the answer for a rule's result, and the cursor and the node count after it; f gives what is read as the code has it
abbrev pub answer : {A T : Type 0} → (A → State → T) → Result A → ℕ → ℕ → ParseResult T
answer f (ok a) cursor count = Ok (f a (state (token cursor) count))
answer f (no number start end) cursor count = Err (refusal number start end cursor count)

-- The answer r and the columns ks (kinds) and ls (loads) are what the rule m gives from the cursor c and the nodes s.
pub record Gives (m : Rule Nodes ℕ) (c : ℕ) (s : Nodes) (r : ParseResult (Read NodeId)) (ks ls : List ℕ) : Type 0 where
  pub reply : r ≡ answer parsed (m c s).result (m c s).cursor (m c s).state.count
  pub kinds : ks ≡ (m c s).state.kinds
  pub loads : ls ≡ (m c s).state.loads
