-- How the answers of the readers of declarations follow from those of the readers that they call, a law for each return.
use native.Mathlib.Omega.{arith}
use mathlib.Core.Logic.{◌≢◌, ◌⊎◌, inl, inr}
use mathlib.Core.Path.{◌≡◌, refl, sym, ◌∙◌}
use mathlib.Core.Bool.{Bool, true, false}
use mathlib.Core.List.{List}
use lib.Dec.{eqb}
use mathlib.Core.Option.{Option, none}
use Prim.Native.Nat.{ℕ, ◌+◌, ◌≤◌, ◌<◌}
use borrow.Author.Tests.{ne_eqb, lt-ltb, le-ltb}
use Rattle.std.specs.Prelude.{Ok, Err, Some, None}
use Rattle.std.specs.Prelude.{Option as Optional}
use Rattle.codes.specs.declared.Node.{Node}
use Rattle.codes.specs.declared.NodeId.{NodeId}
use Rattle.codes.specs.declared.ParsingError.{ParsingError}
use Rattle.codes.specs.declared.Read.{Read}
use Rattle.codes.specs.declared.TokenId.{TokenId}
use Rattle.codes.specs.Answer.{ParseResult, refusal, row}
use Rattle.codes.specs.Words.{As, Gives, Quiet, Untyped, nodes, Unread}
use Rattle.codes.proofs.Onto.{Onto, ◌then◌, stays, reads, at_here, answers, declines, shows, told, hands_on}
use Rattle.codes.proofs.Onto.{first, came-node, regroup}
use Rattle.tokens.specs.Answer.{Optionally, kind_in, consumed, consuming}
use Rattle.tokens.proofs.Laws.{consumes, wrong, taken, skipped, there, not_there, apart, came-token, came-consumed}
use Rattle.nodes.specs.declared.ActiveList.{ActiveList}
use Rattle.nodes.specs.declared.Turn.{Turn}
use Rattle.nodes.specs.declared.Turn.TheVariants.{More, Last}
use Rattle.nodes.specs.Answer.{ends, active, listed, append_two}
use Rattle.nodes.proofs.Laws.{active-ends, came-listed}
use Rattle.types.specs.Answer.{Shorts}
use Rattle.types.proofs.Laws.{short-type}
use Rattle.references.specs.Answer.{stepped, stepping}
use Rattle.references.proofs.Laws.{step-more, step-full}
use Rattle.declarations.specs.Answer.{coloned, named, member_typed, declaring, structured, opaque_struct}
use Rattle.declarations.specs.Answer.{valued, member_ending}
use Rattle.rules.specs.Codes.{pick}
use Rattle.rules.specs.Codes.BaseToken as BaseToken
use Rattle.rules.specs.Codes.ParseNode as ParseNode
use Rattle.rules.specs.Codes.Refusal as Refusal
use Rattle.rules.specs.Codes.DeclarationFlag as DeclarationFlag
use Rattle.rules.specs.Reading.{Result, ok, no, next, Row, kind_of, Rule, pure, refuse, here, ◌>>=◌, consume, optional}
use Rattle.rules.specs.Words.{Words, words, append, push_list_item, push_end_of_list}
use Rattle.rules.specs.Types.{type}
use Rattle.rules.specs.Expressions.{expression}
use Rattle.rules.specs.Declarations.{opaque, size_of_word, structure, constant_end, colon, typed, value, constant, member}
use Rattle.rules.specs.Declarations.{member_end, member_item, member_list, members, struct, word}

-- a colon, or another token in its place
module _ (tk : List ℕ) (number : ℕ) (c : TokenId) (k : ℕ) {o : Optional TokenId}
    (g : Optionally tk BaseToken.Colon c.0 o) where
  pub colon-found : {p : TokenId} → o ≡ Some p → Quiet consumed (coloned number) tk c.0 k (Ok p)
  unfolding coloned colon
  colon-found e = record { run = λ tv ks. answers {k = k} (at_here _ then reads _ (taken g e tv)) }

  pub colon-missing :
      o ≡ None →
      Quiet consumed (coloned number) tk c.0 k
      (Err (record { number = number; cursor = c; count = k; start = c; end = c }))
  unfolding coloned colon
  colon-missing e = record { run = λ tv ks. declines (at_here _ then reads _ (skipped g e tv)) }

-- a name and a colon
module _ (tk : List ℕ) (number c : ℕ) {k : ℕ} {o : ParseResult TokenId}
    (g : Quiet consumed (consuming BaseToken.Identifier) tk c k o) where
  pub unnamed : {e : ParsingError} → o ≡ Err e → Quiet consumed (named number) tk c k (Err e)
  unfolding named consuming
  unnamed w = record { run = λ tv ks. hands_on _ stays (told (g.run tv ks) w) }

  pub named-read :
      {p : TokenId} → o ≡ Ok p → {o' : ParseResult TokenId} → Quiet consumed (coloned number) tk p.0 k o' →
      Quiet consumed (named number) tk c k o'
  unfolding named consuming coloned
  named-read q d = record { run = λ tv ks. shows (reads _ (came-consumed _ g q tv ks)) (d.run tv ks) }

-- a rule that appends no node
abbrev Quietly : {A : Type 0} → Rule Words A → Type 0
Quietly m = (c : ℕ) (s : Words) → (m c s).state.count ≡ s.count

both-quietly :
    {A B : Type 0} (m : Rule Words A) (f : A → Rule Words B) → Quietly m → ((a : A) → Quietly (f a)) → Quietly (m >>= f)
unfolding ◌>>=◌
both-quietly {A} m f h g c s = go (m c s).result (h c s)
  where
    go :
        (q : Result A) → (m c s).state.count ≡ s.count →
        (next q (m c s).cursor (m c s).state f).state.count ≡ s.count
    go (ok a) e = g a (m c s).cursor (m c s).state ∙ e
    go (no n x y) e = e

colon-quietly : (number : ℕ) (at : Row) → Quietly (colon words at number)
unfolding colon here optional ◌>>=◌
colon-quietly number at c s =
    go (eqb (kind_of at c) BaseToken.Colon) (pick (eqb (kind_of at c) BaseToken.Colon) (c + 1) c)
  where
    go : (b : Bool) (p : ℕ) → (pick b (pure (tt {0})) (refuse number c c) p s).state.count ≡ s.count
    go true p = refl
    go false p = refl

named-quietly : (number : ℕ) (at : Row) → Quietly (named number at)
unfolding named consume
named-quietly number at =
    both-quietly (consume at BaseToken.Identifier) (λ _. colon words at number) (λ c s. refl)
    (λ _. colon-quietly number at)

-- the cursor after them, by the answer
pub came-named :
    {tk : List ℕ} {c k : ℕ} (number : ℕ) {o : ParseResult TokenId} → Quiet consumed (named number) tk c k o →
    {p : TokenId} → o ≡ Ok p → (tv ns : List ℕ) →
    Onto (named number (row tk tv)) c (nodes ns k) (pure tt) p.0 (nodes ns k)
came-named {tk} number g q tv ns = came-token (g.run tv ns) (named-quietly number (row tk tv) _ _) q

-- and a type
module _ (tk tv : List ℕ) (number u c : ℕ) {k : ℕ} {ks : List ℕ} {o : ParseResult TokenId}
    (g : Quiet consumed (named number) tk c k o) where
  name-first :
      Onto (typed words (row tk tv) number u) c (nodes ks k)
      (named number (row tk tv) >>= λ _. type words (row tk tv) u) c (nodes ks k)
  unfolding typed named
  name-first = record {
    same =
        sym (regroup (consume (row tk tv) BaseToken.Identifier) (λ _. colon words (row tk tv) number)
        (λ _. type words (row tk tv) u) c (nodes ks k)).same;
  }

  pub typed-unnamed :
      {e : ParsingError} → o ≡ Err e → Gives (typed words (row tk tv) number u) c (nodes ks k) (Err e) ks
  typed-unnamed w = hands_on _ name-first (told (g.run tv ks) w)

  pub typed-read :
      {p : TokenId} → o ≡ Ok p → {r : ParseResult (Read NodeId)} {ks' : List ℕ} →
      Gives (type words (row tk tv) u) p.0 (nodes ks k) r ks' →
      Gives (typed words (row tk tv) number u) c (nodes ks k) r ks'
  typed-read w f = shows (name-first then reads _ (came-named number g w tv ks)) f

-- a member after its name and colon
module _ (tk tv : List ℕ) (u c name : ℕ) {k : ℕ} {ks : List ℕ} where
  module _ {r₁ : ParseResult (Read NodeId)} {ks₁ : List ℕ}
      (g : Gives (type words (row tk tv) u) c (nodes ks k) r₁ ks₁) where
    pub member-untyped :
        {e : ParsingError} → r₁ ≡ Err e → Gives (member_typed u name (row tk tv)) c (nodes ks k) (Err e) ks₁
    unfolding member_typed
    member-untyped q = hands_on _ stays (told g q)

    pub member-typed :
        {v : Read NodeId} → r₁ ≡ Ok v → {r : ParseResult (Read NodeId)} {ks' : List ℕ} →
        Gives (append ParseNode.IdentifierAndType name) v.cursor.0 (nodes ks₁ v.count) r ks' →
        Gives (member_typed u name (row tk tv)) c (nodes ks k) r ks'
    unfolding member_typed
    member-typed q d = shows (reads _ (came-node g q)) d

  pub member-short :
      {x : Optional Node} → Shorts tk tv c x → {n : Node} → x ≡ Some n → 0 < u →
      {r : ParseResult (Read NodeId)} {ks' : List ℕ} →
      Gives (append_two n.0 n.1 ParseNode.IdentifierAndType name) (c + 1) (nodes ks k) r ks' →
      Gives (member_typed u name (row tk tv)) c (nodes ks k) r ks'
  unfolding member_typed append_two
  member-short f e h d = shows (first _ (short-type tk tv u c f e h)) d

-- a member
module _ (tk tv : List ℕ) (u c : ℕ) {k : ℕ} {ks : List ℕ} {o : ParseResult TokenId}
    (g : Quiet consumed (named Refusal.MissingMemberType) tk c k o) where
  pub member-unnamed :
      {e : ParsingError} → o ≡ Err e → Gives (member words (row tk tv) u) c (nodes ks k) (Err e) ks
  unfolding member
  member-unnamed w =
      hands_on _ (at_here _ then first _ (name-first tk tv _ u c g) then regroup _ _ _ c _) (told (g.run tv ks) w)

  pub member-named :
      {p : TokenId} → o ≡ Ok p → {r : ParseResult (Read NodeId)} {ks' : List ℕ} →
      Gives (member_typed u c (row tk tv)) p.0 (nodes ks k) r ks' →
      Gives (member words (row tk tv) u) c (nodes ks k) r ks'
  unfolding member member_typed
  member-named w d =
      shows
      (at_here _ then first _ (name-first tk tv _ u c g) then regroup _ _ _ c _ then
      reads _ (came-named _ g w tv ks)) d

-- after a member: a comma or the closing brace, and the list's item
module _ (tk : List ℕ) (l : ActiveList) (t c x k : ℕ) (peeked : x ≡ kind_in tk c) {ks : List ℕ} where
  pub end-missing :
      ((x ≡ BaseToken.BraceRight) ⊎ (x ≡ BaseToken.Comma) → ⊥) →
      Untyped stepped (member_ending (ends l) t) tk c (nodes ks k) (Err (refusal Refusal.ExpectedComma c c (c + 1) k))
      ks
  unfolding member_ending member_end consuming
  end-missing h = record {
    run = λ tv.
        hands_on _ (reads _ (not_there tk c x peeked tv _ (λ e. h (inl e))))
        (told ((wrong tk BaseToken.Comma x c k peeked (λ e. h (inr e)) _ refl).run tv ks) refl);
  }

  module _ {o : ParseResult (Read ActiveList)} {ks' : List ℕ}
      (g : As listed (push_list_item (ends l)) (c + 1) (nodes ks k) o ks') where
    -- a comma is taken, and what is read after it is read after the member
    comma-read :
        x ≡ BaseToken.Comma → {r : ParseResult (Read (Turn ActiveList))} →
        Unread stepped (stepping (ends l) t) (c + 1) (nodes ks k) r ks' →
        Untyped stepped (member_ending (ends l) t) tk c (nodes ks k) r ks'
    unfolding member_ending member_end consuming stepping
    comma-read e d = record {
      run = λ tv.
          shows
          (reads _ (not_there tk c x peeked tv _ (apart x _ _ refl e)) then
          reads _ (came-consumed _ (consumes tk BaseToken.Comma x c k peeked e) refl tv ks))
          (d.run (row tk tv));
    }

    pub member-more :
        x ≡ BaseToken.Comma → {v : Read ActiveList} → o ≡ Ok v →
        Untyped stepped (member_ending (ends l) t) tk c (nodes ks k)
        (Ok (record { value = More v.value; cursor = v.cursor; count = v.count })) ks'
    member-more e q = comma-read e (step-more l t g q)

    pub member-last :
        (x ≡ BaseToken.Comma → ⊥) → (x ≡ BaseToken.BraceRight) ⊎ (x ≡ BaseToken.Comma) →
        {v : Read ActiveList} → o ≡ Ok v →
        Untyped stepped (member_ending (ends l) t) tk c (nodes ks k)
        (Ok (record { value = Last v.value; cursor = v.cursor; count = v.count })) ks'
    unfolding member_ending member_end
    member-last h (inr e) q = absurd (h e)
    member-last h (inl e) {v} q = record {
      run = λ tv.
          let z : As stepped (member_ending (ends l) t (row tk tv)) c (nodes ks k)
          (Ok (record { value = Last (active (ends v.value)); cursor = v.cursor; count = v.count })) ks' =
          answers (reads _ (there tk c x peeked tv _ e) then reads _ (came-listed g q)) in
          rw (active-ends v.value) at z;
    }

    pub member-full :
        (x ≡ BaseToken.BraceRight) ⊎ (x ≡ BaseToken.Comma) → {e : ParsingError} → o ≡ Err e →
        Untyped stepped (member_ending (ends l) t) tk c (nodes ks k) (Err e) ks'
    unfolding member_ending member_end
    member-full (inr e) q = comma-read e (step-full l t g q)
    member-full (inl e) q = record {
      run = λ tv. hands_on _ (reads _ (there tk c x peeked tv _ e)) (told g q);
    }

-- a member and what follows it, or the closing brace
module _ (tk tv : List ℕ) (u c k : ℕ) (l : ActiveList) {ks : List ℕ} {o : Optional TokenId}
    (d : Optionally tk BaseToken.BraceRight c o) where
  pub members-end :
      {p : TokenId} → o ≡ Some p →
      As stepped (member_item words (row tk tv) u (ends l)) c (nodes ks k)
      (Ok (record { value = Last l; cursor = p; count = k })) ks
  unfolding member_item
  members-end {p} x =
      let g : As stepped (member_item words (row tk tv) u (ends l)) c (nodes ks k)
      (Ok (record { value = Last (active (ends l)); cursor = p; count = k })) ks =
      answers (reads _ (taken d x tv)) in
      rw (active-ends l) at g

  module _ (x : o ≡ None) {r₁ : ParseResult (Read NodeId)} {ks₁ : List ℕ}
      (g : Gives (member words (row tk tv) u) c (nodes ks k) r₁ ks₁) where
    pub member-item-stopped :
        {e : ParsingError} → r₁ ≡ Err e →
        As stepped (member_item words (row tk tv) u (ends l)) c (nodes ks k) (Err e) ks₁
    unfolding member_item
    member-item-stopped q = hands_on _ (reads _ (skipped d x tv)) (told g q)

    pub member-item-read :
        {v : Read NodeId} → r₁ ≡ Ok v → {r : ParseResult (Read (Turn ActiveList))} {ks' : List ℕ} →
        Untyped stepped (member_ending (ends l) v.value.0) tk v.cursor.0 (nodes ks₁ v.count) r ks' →
        As stepped (member_item words (row tk tv) u (ends l)) c (nodes ks k) r ks'
    unfolding member_item member_ending
    member-item-read q f = shows (reads _ (skipped d x tv) then reads _ (came-node g q)) (f.run tv)

-- members in braces
module _ (tk tv : List ℕ) (u c : ℕ) {k : ℕ} {ks : List ℕ} {o : ParseResult TokenId}
    (g : Quiet consumed (consuming BaseToken.BraceLeft) tk c k o) where
  pub brace-missing :
      {e : ParsingError} → o ≡ Err e → Gives (members words (row tk tv) u) c (nodes ks k) (Err e) ks
  unfolding members consuming
  brace-missing w = hands_on _ stays (told (g.run tv ks) w)

  pub members-read :
      {p : TokenId} → o ≡ Ok p → {r : ParseResult (Read NodeId)} {ks' : List ℕ} →
      Gives (member_list words (row tk tv) u) p.0 (nodes ks k) r ks' →
      Gives (members words (row tk tv) u) c (nodes ks k) r ks'
  unfolding members consuming
  members-read q d = shows (reads _ (came-consumed _ g q tv ks)) d

-- the last nodes of a declaration
module _ (kind start flags name : ℕ) {c : ℕ} {s : Words} {r₁ : ParseResult (Read NodeId)} {ks₁ : List ℕ}
    (g : Gives (append_two ParseNode.Identifier name ParseNode.DeclarationFlags flags) c s r₁ ks₁) where
  flagged :
      Onto (declaring kind start flags name) c s
      (append_two ParseNode.Identifier name ParseNode.DeclarationFlags flags >>= λ _. append kind start) c s
  unfolding declaring append_two
  flagged = record { same = sym (regroup _ _ _ c s).same }

  pub declaration-refused :
      {e : ParsingError} → r₁ ≡ Err e → Gives (declaring kind start flags name) c s (Err e) ks₁
  declaration-refused q = hands_on _ flagged (told g q)

  pub declaration-pushed :
      {v : Read NodeId} → r₁ ≡ Ok v → {r : ParseResult (Read NodeId)} {ks : List ℕ} →
      Gives (append kind start) v.cursor.0 (nodes ks₁ v.count) r ks →
      Gives (declaring kind start flags name) c s r ks
  declaration-pushed q d = shows (flagged then reads _ (came-node g q)) d

-- the nodes of a struct or word
module _ (start flags size name l : ℕ) {c : ℕ} {s : Words} {r₁ : ParseResult (Read NodeId)} {ks₁ : List ℕ}
    (g : Gives (append_two ParseNode.List l ParseNode.StructuralType size) c s r₁ ks₁) where
  sized :
      Onto (structure words start flags size name l) c s
      (append_two ParseNode.List l ParseNode.StructuralType size >>= λ _.
      declaring ParseNode.StructureDeclaration start flags name) c s
  unfolding structure declaring append_two
  sized = record { same = sym (regroup _ _ _ c s).same }

  pub structure-refused :
      {e : ParsingError} → r₁ ≡ Err e → Gives (structure words start flags size name l) c s (Err e) ks₁
  structure-refused q = hands_on _ sized (told g q)

  pub structure-pushed :
      {v : Read NodeId} → r₁ ≡ Ok v → {r : ParseResult (Read NodeId)} {ks : List ℕ} →
      Gives (declaring ParseNode.StructureDeclaration start flags name) v.cursor.0 (nodes ks₁ v.count) r
      ks →
      Gives (structure words start flags size name l) c s r ks
  structure-pushed q d = shows (sized then reads _ (came-node g q)) d

-- members in braces, and what has them
module _ (tk tv : List ℕ) (u start flags size name c : ℕ) {s : Words} {r₁ : ParseResult (Read NodeId)}
    {ks₁ : List ℕ} (g : Gives (members words (row tk tv) u) c s r₁ ks₁) where
  pub structured-stopped :
      {e : ParsingError} → r₁ ≡ Err e → Gives (structured u start flags size name (row tk tv)) c s (Err e) ks₁
  unfolding structured
  structured-stopped q = hands_on _ stays (told g q)

  pub structured-read :
      {v : Read NodeId} → r₁ ≡ Ok v → {r : ParseResult (Read NodeId)} {ks : List ℕ} →
      Gives (structure words start flags size name v.value.0) v.cursor.0 (nodes ks₁ v.count) r ks →
      Gives (structured u start flags size name (row tk tv)) c s r ks
  unfolding structured
  structured-read q d = shows (reads _ (came-node g q)) d

-- the flags with OpaqueStruct, by whether it is among them
module _ (flags : ℕ) where
  pub opaque-added : flags < DeclarationFlag.OpaqueStruct → flags + DeclarationFlag.OpaqueStruct ≡ opaque flags
  opaque-added h = rw (lt-ltb _ _ h) refl

  pub opaque-there : DeclarationFlag.OpaqueStruct ≤ flags → flags ≡ opaque flags
  opaque-there h = rw (le-ltb _ _ h) refl

-- the sizes of words
pub data Sizes : ℕ → ℕ → Type 0 where
  one : Sizes BaseToken.Word8 1
  two : Sizes BaseToken.Word16 2
  four : Sizes BaseToken.Word32 4
  eight : Sizes BaseToken.Word64 8
  sixteen : Sizes BaseToken.Word128 16

pub word_size : (kind : ℕ) {key size : ℕ} → Sizes key size → kind ≡ key → size ≡ size_of_word kind
word_size kind one e = rw e refl
word_size kind two e = rw e refl
word_size kind four e = rw e refl
word_size kind eight e = rw e refl
word_size kind sixteen e = rw e refl

-- the last of them is what the others are not
pub last-size :
    (kind : ℕ) → BaseToken.Word8 ≤ kind → kind ≤ BaseToken.Word128 → kind ≢ BaseToken.Word8 → kind ≢ BaseToken.Word16 →
    kind ≢ BaseToken.Word32 → kind ≢ BaseToken.Word64 → 16 ≡ size_of_word kind
last-size kind l h a b c d = word_size kind sixteen (omega arith)

-- what is no word has no size
no_word :
    (kind : ℕ) → ((key : ℕ) → BaseToken.Word8 ≤ key → key ≤ BaseToken.Word128 → kind ≢ key) → 0 ≡ size_of_word kind
no_word kind h =
    rw (
      ne_eqb _ _ (h BaseToken.Word8 (omega arith) (omega arith)),
      ne_eqb _ _ (h BaseToken.Word16 (omega arith) (omega arith)),
      ne_eqb _ _ (h BaseToken.Word32 (omega arith) (omega arith)),
      ne_eqb _ _ (h BaseToken.Word64 (omega arith) (omega arith)),
      ne_eqb _ _ (h BaseToken.Word128 (omega arith) (omega arith)),
    ) refl

pub outside-words :
    (kind : ℕ) → (kind < BaseToken.Word8) ⊎ ((BaseToken.Word8 ≤ kind) × (BaseToken.Word128 < kind)) →
    0 ≡ size_of_word kind
outside-words kind (inl h) = no_word kind (λ key a b e. omega arith)
outside-words kind (inr h) = no_word kind (λ key a b e. omega arith)

-- a struct without members
module _ (start flags name c : ℕ) {l : Option _} (none' : l ≡ none) {s : Words} {r₁ : ParseResult (Read NodeId)}
    {ks₁ : List ℕ} (g : Gives (push_end_of_list l) c s r₁ ks₁) where
  pub opaque-stopped :
      {e : ParsingError} → r₁ ≡ Err e → Gives (opaque_struct start flags name) c s (Err e) ks₁
  unfolding opaque_struct
  opaque-stopped q = hands_on _ stays (told (rw none' at g) q)

  pub opaque-pushed :
      {v : Read NodeId} → r₁ ≡ Ok v → {all : ℕ} → all ≡ opaque flags →
      {r : ParseResult (Read NodeId)} {ks : List ℕ} →
      Gives (structure words start all 0 name v.value.0) v.cursor.0 (nodes ks₁ v.count) r ks →
      Gives (opaque_struct start flags name) c s r ks
  unfolding opaque_struct
  opaque-pushed q e d = shows (reads _ (came-node (rw none' at g) q)) (rw e at d)

-- a struct and a word, after their names
module _ (tk tv : List ℕ) (u start flags c : ℕ) {k : ℕ} {ks : List ℕ} {o : ParseResult TokenId}
    (g : Quiet consumed (consuming BaseToken.Identifier) tk c k o) where
  pub struct-unnamed :
      {e : ParsingError} → o ≡ Err e → Gives (struct words (row tk tv) u start flags) c (nodes ks k) (Err e) ks
  unfolding struct consuming
  struct-unnamed w = hands_on _ (at_here _) (told (g.run tv ks) w)

  pub word-unnamed :
      (kind : ℕ) {e : ParsingError} → o ≡ Err e →
      Gives (word words (row tk tv) u start flags kind) c (nodes ks k) (Err e) ks
  unfolding word consuming
  word-unnamed kind w = hands_on _ (at_here _) (told (g.run tv ks) w)

  module _ {p : TokenId} (q : o ≡ Ok p) where
    pub word_read :
        (kind : ℕ) {size : ℕ} → size ≡ size_of_word kind → {r : ParseResult (Read NodeId)} {ks' : List ℕ} →
        Gives (structured u start flags size c (row tk tv)) p.0 (nodes ks k) r ks' →
        Gives (word words (row tk tv) u start flags kind) c (nodes ks k) r ks'
    unfolding word consuming structured
    word_read kind e d = shows (at_here _ then reads _ (came-consumed _ g q tv ks)) (rw e at d)

    module _ {x : Optional TokenId} (d : Optionally tk BaseToken.Semicolon p.0 x) where
      pub struct-opaque :
          {p' : TokenId} → x ≡ Some p' → {r : ParseResult (Read NodeId)} {ks' : List ℕ} →
          Gives (opaque_struct start flags c) p'.0 (nodes ks k) r ks' →
          Gives (struct words (row tk tv) u start flags) c (nodes ks k) r ks'
      unfolding struct consuming opaque_struct
      struct-opaque e f =
          shows
          (at_here _ then reads _ (came-consumed _ g q tv ks) then
          reads _ (taken d e tv)) f

      pub struct-read :
          x ≡ None → {r : ParseResult (Read NodeId)} {ks' : List ℕ} →
          Gives (structured u start flags 0 c (row tk tv)) p.0 (nodes ks k) r ks' →
          Gives (struct words (row tk tv) u start flags) c (nodes ks k) r ks'
      unfolding struct consuming structured
      struct-read e f =
          shows
          (at_here _ then reads _ (came-consumed _ g q tv ks) then
          reads _ (skipped d e tv)) f

-- a constant's value
module _ (tk tv : List ℕ) (u c : ℕ) {k : ℕ} {ks : List ℕ} {o : ParseResult TokenId}
    (g : Quiet consumed (consuming BaseToken.Assignment) tk c k o) where
  pub assignment-missing :
      {e : ParsingError} → o ≡ Err e → Gives (value words (row tk tv) u) c (nodes ks k) (Err e) ks
  unfolding value consuming
  assignment-missing w = hands_on _ stays (told (g.run tv ks) w)

  module _ {p : TokenId} (q : o ≡ Ok p) {r₁ : ParseResult (Read NodeId)} {ks₁ : List ℕ}
      (d : Gives (expression words (row tk tv) u) p.0 (nodes ks k) r₁ ks₁) where
    pub value-stopped :
        {e : ParsingError} → r₁ ≡ Err e → Gives (value words (row tk tv) u) c (nodes ks k) (Err e) ks₁
    unfolding value consuming
    value-stopped w = hands_on _ (reads _ (came-consumed _ g q tv ks)) (told d w)

    module _ {x : Read NodeId} (w : r₁ ≡ Ok x) {o' : ParseResult TokenId}
        (f : Quiet consumed (consuming BaseToken.Semicolon) tk x.cursor.0 x.count o') where
      pub semicolon-missing :
          {e : ParsingError} → o' ≡ Err e → Gives (value words (row tk tv) u) c (nodes ks k) (Err e) ks₁
      unfolding value consuming
      semicolon-missing y =
          hands_on _
          (reads _ (came-consumed _ g q tv ks) then reads _ (came-node d w))
          (told (f.run tv ks₁) y)

      pub value_read :
          {p' : TokenId} → o' ≡ Ok p' →
          Gives (value words (row tk tv) u) c (nodes ks k)
          (Ok (record { value = x.value; cursor = p'; count = x.count })) ks₁
      unfolding value consuming
      value_read y =
          answers
          (reads _ (came-consumed _ g q tv ks) then
          reads _ (came-node d w) then
          reads _ (came-consumed _ f y tv ks₁))

-- the nodes of a constant
module _ (start flags name t e : ℕ) {c : ℕ} {s : Words} {r₁ : ParseResult (Read NodeId)} {ks₁ : List ℕ}
    (g : Gives (append ParseNode.Item t) c s r₁ ks₁) where
  pub constant-refused :
      {x : ParsingError} → r₁ ≡ Err x → Gives (constant_end words start flags name t e) c s (Err x) ks₁
  unfolding constant_end
  constant-refused q = hands_on _ stays (told g q)

  pub constant-pushed :
      {v : Read NodeId} → r₁ ≡ Ok v → {r : ParseResult (Read NodeId)} {ks : List ℕ} →
      Gives (declaring ParseNode.ConstantDeclaration start flags name) v.cursor.0 (nodes ks₁ v.count) r
      ks →
      Gives (constant_end words start flags name t e) c s r ks
  unfolding constant_end declaring
  constant-pushed q d = shows (reads _ (came-node g q)) d

-- after the type of a constant
module _ (tk tv : List ℕ) (u start flags name t c : ℕ) {s : Words} {r₁ : ParseResult (Read NodeId)} {ks₁ : List ℕ}
    (g : Gives (value words (row tk tv) u) c s r₁ ks₁) where
  pub constant-value-stopped :
      {e : ParsingError} → r₁ ≡ Err e → Gives (valued u start flags name t (row tk tv)) c s (Err e) ks₁
  unfolding valued
  constant-value-stopped q = hands_on _ stays (told g q)

  pub constant-value-read :
      {v : Read NodeId} → r₁ ≡ Ok v → {r : ParseResult (Read NodeId)} {ks : List ℕ} →
      Gives (constant_end words start flags name t v.value.0) v.cursor.0 (nodes ks₁ v.count) r ks →
      Gives (valued u start flags name t (row tk tv)) c s r ks
  unfolding valued
  constant-value-read q d = shows (reads _ (came-node g q)) d

-- a constant
module _ (tk tv : List ℕ) (u start flags c : ℕ) {s : Words} {r₁ : ParseResult (Read NodeId)} {ks₁ : List ℕ}
    (g : Gives (typed words (row tk tv) Refusal.MissingConstantType u) c s r₁ ks₁) where
  pub constant-stopped :
      {e : ParsingError} → r₁ ≡ Err e → Gives (constant words (row tk tv) u start flags) c s (Err e) ks₁
  unfolding constant
  constant-stopped q = hands_on _ (at_here _) (told g q)

  pub constant-read :
      {v : Read NodeId} → r₁ ≡ Ok v → {r : ParseResult (Read NodeId)} {ks : List ℕ} →
      Gives (valued u start flags c v.value.0 (row tk tv)) v.cursor.0 (nodes ks₁ v.count) r ks →
      Gives (constant words (row tk tv) u start flags) c s r ks
  unfolding constant valued
  constant-read q d = shows (at_here _ then reads _ (came-node g q)) d
