-- The codes of document 01 under the Rust's names, and its tables.
use Rattle.std.specs.Prelude.{ℕ, Bool, true, false, List, [], ◌∷◌, eqb}
pub mod BaseToken
pub mod ValueTypeKeyword
pub mod ParseNode
pub mod BinaryOp
pub mod UnaryOp
pub mod ComparisonOp
pub mod DeclarationFlag
pub mod Refusal
pub mod Limit

infix 68 ◌⇒◌
abbrev pub pick : {A : Type 0} → Bool → A → A → A
pick true a b = a
pick false a b = b

-- a row of a table: a key and its entry
abbrev pub ◌⇒◌ : {A : Type 0} → ℕ → A → ℕ × A
◌⇒◌ k a = (k, a)

-- the entry of a table for a key, or the last argument where it has none
abbrev pub lookup : {A : Type 0} → ℕ → List (ℕ × A) → A → A
lookup k [] d = d
lookup k (e ∷ es) d = pick (eqb k e.0) e.1 (lookup k es d)

-- The refusals' numbers by the kind that was expected.
abbrev pub refusals : List (ℕ × ℕ)
refusals =
    BaseToken.Assignment ⇒ Refusal.ExpectedAssignment
    ∷ BaseToken.BraceLeft ⇒ Refusal.ExpectedBraceLeft
    ∷ BaseToken.BraceRight ⇒ Refusal.ExpectedBraceRight
    ∷ BaseToken.BracketRight ⇒ Refusal.ExpectedBracketRight
    ∷ BaseToken.ParenLeft ⇒ Refusal.ExpectedParenLeft
    ∷ BaseToken.ParenRight ⇒ Refusal.ExpectedParenRight
    ∷ BaseToken.Pipe ⇒ Refusal.ExpectedPipe
    ∷ BaseToken.Semicolon ⇒ Refusal.ExpectedSemicolon
    ∷ BaseToken.Identifier ⇒ Refusal.ExpectedIdentifier
    ∷ BaseToken.Comma ⇒ Refusal.ExpectedComma
    ∷ []

-- the refusal's number for such a kind, 0 where there is none
abbrev pub refusal_of : ℕ → ℕ
refusal_of k = lookup k refusals 0

-- A part of a node (document 01's term): the node so many places back, or the one that its load names (MANUAL.md,
-- Parts).
pub data Part : Type 0 where
  back : ℕ → Part
  linked : Part

-- The parts by the node's kind, in their order.
abbrev pub parts_of : ℕ → List Part
parts_of k = lookup k
    (ParseNode.ConstantDeclaration ⇒ (back 1 ∷ back 2 ∷ back 3 ∷ back 4 ∷ [])
    ∷ ParseNode.StructureDeclaration ⇒ (back 1 ∷ back 2 ∷ back 3 ∷ back 4 ∷ [])
    ∷ ParseNode.Item ⇒ (linked ∷ [])
    ∷ ParseNode.List ⇒ (linked ∷ [])
    ∷ ParseNode.ListItem ⇒ (back 1 ∷ linked ∷ [])
    ∷ ParseNode.Deref ⇒ (back 1 ∷ back 2 ∷ back 3 ∷ [])
    ∷ ParseNode.Binary ⇒ (back 1 ∷ back 2 ∷ back 3 ∷ [])
    ∷ ParseNode.Unary ⇒ (back 1 ∷ back 2 ∷ [])
    ∷ ParseNode.TypeCast ⇒ (back 1 ∷ back 2 ∷ [])
    ∷ ParseNode.CompositeValueType ⇒ (back 1 ∷ back 2 ∷ [])
    ∷ ParseNode.FunctionCall ⇒ (back 1 ∷ back 2 ∷ [])
    ∷ ParseNode.Parenthesized ⇒ (back 1 ∷ [])
    ∷ ParseNode.BitCast ⇒ (back 1 ∷ [])
    ∷ ParseNode.SizeOf ⇒ (back 1 ∷ [])
    ∷ ParseNode.LengthOf ⇒ (back 1 ∷ [])
    ∷ ParseNode.DerefStepElement ⇒ (back 1 ∷ [])
    ∷ ParseNode.Structural ⇒ (back 1 ∷ [])
    ∷ ParseNode.ArrayLiteral ⇒ (back 1 ∷ [])
    ∷ ParseNode.IdentifierAndType ⇒ (back 1 ∷ [])
    ∷ ParseNode.IdentifierAndExpression ⇒ (back 1 ∷ [])
    ∷ ParseNode.TypedIntegerLiteral ⇒ (back 1 ∷ [])
    ∷ ParseNode.CompositeStringLiteral ⇒ (back 1 ∷ [])
    ∷ ParseNode.ArrayVT ⇒ (back 1 ∷ [])
    ∷ ParseNode.ArrayWithNamedLengthVT ⇒ (back 1 ∷ [])
    ∷ ParseNode.SliceVT ⇒ (back 1 ∷ [])
    ∷ ParseNode.EndlessArrayVT ⇒ (back 1 ∷ [])
    ∷ ParseNode.ArraylikeVT ⇒ (back 1 ∷ [])
    ∷ ParseNode.PointerVT ⇒ (back 1 ∷ [])
    ∷ ParseNode.ViewVT ⇒ (back 1 ∷ [])
    ∷ [])
    []

-- Whether a node's load is a token number, by its kind. Any other load is a link (see parts_of), a count, a code or 0.
abbrev pub holds_token : ℕ → Bool
holds_token k = lookup k
    (ParseNode.ConstantDeclaration ⇒ true
    ∷ ParseNode.StructureDeclaration ⇒ true
    ∷ ParseNode.Identifier ⇒ true
    ∷ ParseNode.EndOfSpan ⇒ true
    ∷ ParseNode.Deref ⇒ true
    ∷ ParseNode.DerefStepMember ⇒ true
    ∷ ParseNode.Binary ⇒ true
    ∷ ParseNode.Unary ⇒ true
    ∷ ParseNode.TypeCast ⇒ true
    ∷ ParseNode.BitCast ⇒ true
    ∷ ParseNode.CompositeValueType ⇒ true
    ∷ ParseNode.CompositeStringLiteral ⇒ true
    ∷ ParseNode.SimpleStringLiteral ⇒ true
    ∷ ParseNode.UntypedIntegerLiteral ⇒ true
    ∷ ParseNode.TypedIntegerLiteral ⇒ true
    ∷ ParseNode.CharLiteral ⇒ true
    ∷ ParseNode.BooleanLiteral ⇒ true
    ∷ ParseNode.Structural ⇒ true
    ∷ ParseNode.IdentifierAndType ⇒ true
    ∷ ParseNode.IdentifierAndExpression ⇒ true
    ∷ ParseNode.UnresolvedStructOrWordVT ⇒ true
    ∷ ParseNode.ArrayVT ⇒ true
    ∷ ParseNode.ArrayWithNamedLengthVT ⇒ true
    ∷ [])
    false
