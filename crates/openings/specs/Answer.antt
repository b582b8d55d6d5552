-- The answers of the code as the rules give them.
use Rattle.std.specs.Prelude.{ℕ, ◌≤◌, Bool, false, List, ◌≡◌, Err}
use Rattle.codes.specs.Answer.{row}
use Rattle.codes.specs.Words.{Gives, Sized, nodes}
use Rattle.tokens.specs.Answer.{kind_in}
use Rattle.lists.specs.Answer.{owner_of, Small}
use Rattle.openings.specs.declared.Opening.{Opening}
use Rattle.openings.specs.declared.Opening.TheVariants.{List as Items, Fields, Reference, Name, Group, Literal}
use Rattle.openings.specs.declared.Opening.TheVariants.{Refused}
use Rattle.rules.specs.Codes.{pick}
use Rattle.rules.specs.Codes.BaseToken as BaseToken
use Rattle.rules.specs.Codes.Limit as Limit
use Rattle.rules.specs.Reading.{Rule, Row, ◌>>=◌}
use Rattle.rules.specs.Words.{Words, words}
use Rattle.rules.specs.Expressions.{Owner, structural, items, stepped, advanced, name_alone, parenthesized, named}
use Rattle.rules.specs.Expressions.{builtin, pointer}
use Rattle.rules.specs.Expressions.{reference, primary}

-- a rule that holds expressions, for every row and every rule for an expression in it
abbrev pub Holds : Type 0
Holds = Row → Rule Words ℕ → Rule Words ℕ

-- a list by what it belongs to
unfoldable pub listed : Owner → Holds
listed owner row expr = items words row expr owner

-- a name that is taken, and its steps; after a pointer, `..` and an expression may follow
unfoldable pub referred : ℕ → ℕ → ℕ → Bool → Holds
referred start depth name is_pointer row expr =
    let reference = stepped words row expr start depth name in
    pick is_pointer (reference >>= advanced words row expr) reference

unfoldable pub alone : ℕ → Holds
alone name row expr = name_alone words name

unfoldable pub grouped : Holds
grouped row expr = parenthesized words row expr

-- the rules whose starts are read
unfoldable pub naming : ℕ → Holds
naming name row expr = named words row expr name

unfoldable pub calling : ℕ → Holds
calling name row expr = builtin words row expr name

unfoldable pub pointing : ℕ → Holds
pointing start row expr = pointer words row expr start

unfoldable pub primary_or : Bool → Holds
primary_or piped row expr = pick piped (reference words row expr) (primary words row expr)

-- The rule m at the cursor c and with so many nodes goes on as m' at p and with j nodes, whatever the value types, the
-- rule for an expression and the node words are. What every reader takes for granted holds there if it holds at c.
pub record Onward (m : Holds) (kinds : List ℕ) (c count : ℕ) (m' : Holds) (p j : ℕ) : Type 0 where
  pub same :
      (types : List ℕ) (expr : Rule Words ℕ) (ks : List ℕ) →
      m (row kinds types) expr c (nodes ks count) ≡ m' (row kinds types) expr p (nodes ks j)
  pub sized : (types ks : List ℕ) → Sized kinds types ks c count → Sized kinds types ks p j

-- the token at the cursor begins no primary that holds an expression or a name
pub record Plain (kinds : List ℕ) (c t : ℕ) : Type 0 where
  pub token : t ≡ kind_in kinds c
  pub no_ampersand : t ≡ BaseToken.Ampersand → ⊥
  pub no_identifier : t ≡ BaseToken.Identifier → ⊥
  pub no_builtin : t ≡ BaseToken.Builtin → ⊥
  pub no_bracket : t ≡ BaseToken.BracketLeft → ⊥
  pub no_parenthesis : t ≡ BaseToken.ParenLeft → ⊥

-- How the rule m, which begins at start, goes on after its first tokens, or is refused.
unfoldable pub Opens : Holds → List ℕ → ℕ → ℕ → ℕ → Opening → Type 0
Opens m kinds start c count (Items p j owner) = Onward m kinds c count (listed (owner_of owner)) p.0 j
Opens m kinds start c count (Fields p j name) = Onward m kinds c count (listed (structural name.0)) p.0 j
Opens m kinds start c count (Reference p j is_pointer depth name) =
    Onward m kinds c count (referred start depth name.0 is_pointer) p.0 j
Opens m kinds start c count (Name p j) = Onward m kinds c count (alone start) p.0 j
Opens m kinds start c count (Group p j) = Onward m kinds c count grouped p.0 j
Opens m kinds start c count (Literal t) = ⊥
Opens m kinds start c count (Refused e) =
    (types : List ℕ) (expr : Rule Words ℕ) (ks : List ℕ) →
    Gives (m (row kinds types) expr) c (nodes ks count) (Err e) ks

-- The same of a primary, or of a reference after a pipe: but a literal is read from the cursor on. Which opening is
-- answered is free where the rules go on alike from two: a name without steps is a name alone, or a reference with no
-- ampersand; a token that begins no primary is left to the literals, or refused.
unfoldable pub Starts : Bool → List ℕ → ℕ → ℕ → Opening → Type 0
Starts piped kinds c count (Literal t) = Plain kinds c t × (piped ≡ false)
Starts piped kinds c count o = Opens (primary_or piped) kinds c c count o

-- what an opening holds fits the words that it becomes
abbrev pub Fits : Opening → Type 0
Fits (Items p j owner) = Small owner
Fits (Fields p j name) = name.0 ≤ Limit.Load
Fits (Reference p j is_pointer depth name) = (depth ≤ Limit.Load) × (name.0 ≤ Limit.Load)
Fits (Name p j) = Unit {0}
Fits (Group p j) = Unit {0}
Fits (Literal t) = Unit {0}
Fits (Refused e) = Unit {0}
