-- The rules that the code equals, where so much nesting is left for what is inside.
use Rattle.std.specs.Prelude.{ℕ, ◌+◌, eqb, Bool, [], ◌∷◌}
use Rattle.std.proofs.Math.Option.{Option}
use Rattle.lists.specs.Answer.{Counted}
use Rattle.openings.specs.Answer.{Holds}
use Rattle.rules.specs.Codes.{pick, lookup, ◌⇒◌}
use Rattle.rules.specs.Codes.BaseToken as BaseToken
use Rattle.rules.specs.Codes.ParseNode as ParseNode
use Rattle.rules.specs.Codes.UnaryOp as UnaryOp
use Rattle.rules.specs.Reading.{Rule, Row, Step, ◌>>=◌, pure, choose}
use Rattle.rules.specs.Lists.{Ends}
use Rattle.rules.specs.Words.{Words, words}
use Rattle.rules.specs.Types.{type}
use Rattle.rules.specs.Expressions.{prefix, closed, item_end, list_item, step, stepped, advanced, field, unary}
use Rattle.rules.specs.Expressions.{singular}
use Rattle.rules.specs.Expressions.{product, sum, expression}

-- the place of a unary's operand, by the token at c
abbrev pub prefix_end : ℕ → ℕ → ℕ
prefix_end token c =
    lookup token (BaseToken.Pipe ⇒ (c + 1) ∷ BaseToken.Exclamation ⇒ (c + 1) ∷ BaseToken.Minus ⇒ (c + 1) ∷ []) c

-- what follows the operand e of a unary, by its first token, which is at
unfoldable pub unary_end : ℕ → ℕ → ℕ → Row → Rule Words ℕ
unary_end t at e row =
    choose t
    (BaseToken.Pipe ⇒ closed words row BaseToken.Pipe ParseNode.LengthOf e
    ∷ BaseToken.Exclamation ⇒ prefix words at UnaryOp.BitwiseComplement e
    ∷ BaseToken.Minus ⇒ prefix words at UnaryOp.Negative e
    ∷ [])
    (pure e)

unfoldable pub sums : ℕ → Row → Rule Words ℕ
sums unused row = sum words row (expression words row unused) (type words row unused)

unfoldable pub unaries : ℕ → Row → Rule Words ℕ
unaries unused row = unary words row (expression words row unused) (type words row unused)

-- an operand of a sum, and of a product; if bare, a unary only
unfoldable pub operand : Bool → ℕ → Row → Rule Words ℕ
operand bare unused row =
    pick bare (unaries unused row) (product words row (expression words row unused) (type words row unused))

unfoldable pub factors : Bool → ℕ → Row → Rule Words ℕ
factors bare unused row =
    pick bare (unaries unused row) (singular words row (expression words row unused) (type words row unused))

-- a rule that holds expressions
unfoldable pub within : Holds → ℕ → Row → Rule Words ℕ
within m unused row = m row (expression words row unused)

unfoldable pub advancing : ℕ → Holds
advancing left row expr = advanced words row expr left

unfoldable pub dereferring : ℕ → ℕ → ℕ → Holds
dereferring start depth name row expr = stepped words row expr start depth name

-- an item of a list, by its closing token, and what stands after it
unfoldable pub list_items : ℕ → Counted → ℕ → Row → Rule Words (Step Counted Counted)
list_items closing l unused row =
    let expr = expression words row unused in
    list_item words row closing (pick (eqb closing BaseToken.BraceRight) (field words row expr) expr) l

unfoldable pub fields : Counted → ℕ → Row → Rule Words (Step Counted Counted)
fields l unused row =
    field words row (expression words row unused) >>= item_end words row BaseToken.BraceRight l

unfoldable pub stepping : Option Ends → ℕ → Row → Rule Words (Step (Option Ends) (Option Ends))
stepping l unused row = step words row (expression words row unused) l
