-- How the answers of the readers of expressions follow from those of the readers that they call, a law for each return.
use mathlib.Core.Path.{◌≡◌, refl, sym, ◌∙◌}
use mathlib.Core.Bool.{Bool, true, false}
use mathlib.Core.List.{List, [], ◌∷◌}
use Prim.Native.Nat.{ℕ, zero, suc, ◌+◌, ◌-◌}
use native.Mathlib.Omega.{arith}
use native.Mathlib.Numerals.{sub-one}
use lib.Dec.{eqb}
use borrow.Author.Tests.{ne_eqb, eqb-true, eqb-false}
use Rattle.std.specs.Prelude.{Ok, Err, Some, None, is_some}
use Rattle.std.specs.Prelude.{Option as Optional}
use Rattle.std.specs.Option.{unwrap_or, option_and}
use Rattle.codes.specs.declared.ParsingError.{ParsingError}
use Rattle.codes.specs.declared.NodeId.{NodeId}
use Rattle.codes.specs.declared.Read.{Read}
use Rattle.codes.specs.declared.TokenId.{TokenId}
use Rattle.codes.specs.Answer.{ParseResult, node_id, token, row, parsed}
use Rattle.codes.specs.Words.{As, Gives, Quiet, Untyped, nodes}
use Rattle.codes.proofs.Onto.{Onto, ◌then◌, stays, first, reads, at_here, takes, peeks, answers, shows, told}
use Rattle.codes.proofs.Onto.{hands_on, came-node, regroup, Rest, beside}
use Rattle.codes.proofs.Onto.{TooDeep, no-nesting}
use Rattle.tokens.specs.Answer.{kind_in, Optionally, consumed, consuming, after}
use Rattle.tokens.proofs.Laws.{optioned, skipped, taken, came-consumed}
use Rattle.casts.specs.Answer.{Casting, cast_at}
use Rattle.references.specs.Answer.{closing}
use Rattle.lists.specs.declared.CountedList.{CountedList}
use Rattle.lists.specs.declared.Owner.{Owner}
use Rattle.nodes.specs.declared.Turn.{Turn}
use Rattle.nodes.specs.declared.Turn.TheVariants.{Last}
use Rattle.lists.specs.Answer.{owner_of, counted, counted_list, turned, ending, field_end, shorthand_end}
use Rattle.lists.proofs.Laws.{counted-back}
use Rattle.literals.specs.Answer.{Literal, Lone}
use Rattle.openings.specs.declared.Opening.{Opening}
use Rattle.openings.specs.declared.Opening.TheVariants.{List as Items, Fields, Reference, Name, Group}
use Rattle.openings.specs.declared.Opening.TheVariants.{Literal as Plainly, Refused as Unopened}
use Rattle.openings.specs.Answer.{Holds, Onward, Opens, Starts, listed, referred, alone as named, grouped, primary_or}
use Rattle.expressions.specs.Answer.{prefix_end, unary_end, sums, unaries, factors, within, advancing, dereferring}
use Rattle.expressions.specs.Answer.{list_items, fields}
use Rattle.rules.specs.Codes.BaseToken as BaseToken
use Rattle.rules.specs.Codes.ParseNode as ParseNode
use Rattle.rules.specs.Codes.UnaryOp as UnaryOp
use Rattle.rules.specs.Codes.BinaryOp as BinaryOp
use Rattle.rules.specs.Codes.{pick}
use Rattle.rules.specs.Reading.{Row, Rule, Result, ok, no, next, pure, choose, ◌>>=◌, optional}
use Rattle.rules.specs.Words.{Words, append, words}
use Rattle.rules.specs.Types.{type}
use Rattle.rules.specs.Expressions.{structural, binary, advanced, singular, singular_end, size_of, list_item, field}
use Rattle.rules.specs.Expressions.{expression}
use Rattle.rules.specs.Expressions.{name_alone, parenthesized, prefix, prefixed, length_of, unary}

-- the operand's place, by the first token of a unary
pub data Prefixes : ℕ → Type 0 where
  pipe : Prefixes BaseToken.Pipe
  exclamation : Prefixes BaseToken.Exclamation
  minus : Prefixes BaseToken.Minus

pub prefix-next : (t c : ℕ) {key : ℕ} → Prefixes key → t ≡ key → c + 1 ≡ prefix_end t c
prefix-next t c pipe e = rw e refl
prefix-next t c exclamation e = rw e refl
prefix-next t c minus e = rw e refl

abbrev NoPrefix : ℕ → Type 0
NoPrefix t = Rest t (Unit {0}) (BaseToken.Pipe ∷ BaseToken.Exclamation ∷ BaseToken.Minus ∷ [])

pub prefix-none : (t c : ℕ) → NoPrefix t → c ≡ prefix_end t c
prefix-none t c h = rw (ne_eqb _ _ h.0.0.1, ne_eqb _ _ h.0.1, ne_eqb _ _ h.1) refl

-- an operand where the unary is has no prefix
no-prefix : (t c : ℕ) → prefix_end t c ≡ c → NoPrefix t
no-prefix t c q = (((tt, none pipe), none exclamation), none minus)
  where
    none : {key : ℕ} → Prefixes key → t ≡ key → ⊥
    none p e = let x = prefix-next t c p e in omega (arith, q)

-- a place after a token that may be there
unwrapped : (o : Optional TokenId) (c : TokenId) → (unwrap_or o c).0 ≡ after c.0 o
unwrapped None c = refl
unwrapped (Some p) c = refl

-- the unary operators
pub data Operator : ℕ → ℕ → Type 0 where
  complement : Operator BaseToken.Exclamation UnaryOp.BitwiseComplement
  negative : Operator BaseToken.Minus UnaryOp.Negative

-- after the operand of a unary
module _ (tk : List ℕ) (t at e : ℕ) {c : ℕ} where
  pub length-ends :
      t ≡ BaseToken.Pipe → {s : Words} {r : ParseResult (Read NodeId)} {ks : List ℕ} →
      Untyped parsed (closing BaseToken.Pipe ParseNode.LengthOf e) tk c s r ks →
      Untyped parsed (unary_end t at e) tk c s r ks
  unfolding unary_end choose closing
  length-ends q g = record { run = λ tv. rw q (g.run tv) }

  pub prefix-ends :
      {key op : ℕ} → Operator key op → t ≡ key → {s : Words} {r : ParseResult (Read NodeId)} {ks : List ℕ} →
      Gives (prefix words at op e) c s r ks → Untyped parsed (unary_end t at e) tk c s r ks
  unfolding unary_end choose
  prefix-ends complement q g = record { run = λ tv. rw q g }
  prefix-ends negative q g = record { run = λ tv. rw q g }

pub primary-ends :
    (tk : List ℕ) (t at e c k : ℕ) {ks : List ℕ} → NoPrefix t →
    Untyped parsed (unary_end t at e) tk c (nodes ks k) (Ok (record { cursor = token c; count = k; value = node_id e }))
    ks
unfolding unary_end
primary-ends tk t at e c k h = record { run = λ tv. answers (beside t _ _ h) }

-- all nesting is used
pub too-deep : (tk tv : List ℕ) → TooDeep (expression words (row tk tv))
unfolding expression
too-deep tk tv = no-nesting _ refl

deeper : (row : Row) (u : ℕ) → (u ≡ 0 → ⊥) → expression words row u ≡ sums (u - 1) row
unfolding expression sums
deeper row zero h = absurd (h refl)
deeper row (suc m) h = rw (sub-one (suc m)) refl

-- a number and nothing more
pub expression-lone :
    (tk tv : List ℕ) (u c : ℕ) → (u ≡ 0 → ⊥) → {b : Bool} → Lone tk c b → b ≡ true → {s : Words}
    {r : ParseResult (Read NodeId)} {ks : List ℕ} → Gives (append ParseNode.UntypedIntegerLiteral c) (c + 1) s r ks →
    Gives (expression words (row tk tv) u) c s r ks
unfolding sums
expression-lone tk tv u c h l e {s} g =
    rw (deeper (row tk tv) u h) (shows (record { same = l.whole e tv _ _ s }) g)

pub expression-read :
    (tk tv : List ℕ) (u c : ℕ) → (u ≡ 0 → ⊥) → {s : Words} {r : ParseResult (Read NodeId)} {ks : List ℕ} →
    Gives (sums (u - 1) (row tk tv)) c s r ks → Gives (expression words (row tk tv) u) c s r ks
expression-read tk tv u c h g = rw (deeper (row tk tv) u h) g

-- an expression in parentheses
module _ (tk tv : List ℕ) (u c : ℕ) {s : Words} {r₁ : ParseResult (Read NodeId)} {ks₁ : List ℕ}
    (g : Gives (expression words (row tk tv) u) c s r₁ ks₁) where
  pub group-refused : {e : ParsingError} → r₁ ≡ Err e → Gives (within grouped u (row tk tv)) c s (Err e) ks₁
  unfolding within grouped parenthesized
  group-refused q = hands_on _ stays (told g q)

  pub group-read :
      {v : Read NodeId} → r₁ ≡ Ok v → {r : ParseResult (Read NodeId)} {ks : List ℕ} →
      Untyped parsed (closing BaseToken.ParenRight ParseNode.Parenthesized v.value.0) tk v.cursor.0
      (nodes ks₁ v.count) r ks → Gives (within grouped u (row tk tv)) c s r ks
  unfolding within grouped parenthesized closing
  group-read q d = shows (reads _ (came-node g q)) (d.run tv)

-- a step that changes nothing may follow
followed :
    {A : Type 0} (m : Rule Words A) (f : A → Rule Words A) {c : ℕ} {s : Words} →
    ((a : A) (c : ℕ) (s : Words) → f a c s ≡ pure a c s) → Onto m c s (m >>= f) c s
unfolding ◌>>=◌
followed {A} m f {c} {s} h = record { same = go (m c s).result (m c s).cursor (m c s).state }
  where
    go :
        (q : Result A) (c : ℕ) (s : Words) → record { result = q; cursor = c; state = s } ≡ next q c s f
    go (ok a) c s = sym (h a c s)
    go (no n x y) c s = refl

-- the operand of a unary that is no size, and what follows it
abbrev operated : List ℕ → List ℕ → ℕ → ℕ → ℕ → Rule Words ℕ
operated tk tv u c t =
    within (primary_or (eqb t BaseToken.Pipe)) u (row tk tv) >>= λ e. unary_end t c e (row tk tv)

-- the unary goes on so, by its first token
abbrev Operates : List ℕ → List ℕ → ℕ → ℕ → ℕ → Words → Type 0
Operates tk tv u c t s = Onto (unaries u (row tk tv)) c s (operated tk tv u c t) (prefix_end t c) s

module _ (tk tv : List ℕ) (u c t : ℕ) (peeked : t ≡ kind_in tk c) {s : Words} where
  piped : t ≡ BaseToken.Pipe → Operates tk tv u c t s
  unfolding unaries unary choose length_of within primary_or unary_end
  piped e = rw e (peeks _ _ (sym e ∙ peeked) then takes _ _ (sym e ∙ peeked))

  operator : {key op : ℕ} → Operator key op → t ≡ key → Operates tk tv u c t s
  unfolding unaries unary choose prefixed within primary_or unary_end
  operator complement e = rw e (peeks _ _ (sym e ∙ peeked) then at_here _ then takes _ _ (sym e ∙ peeked))
  operator negative e = rw e (peeks _ _ (sym e ∙ peeked) then at_here _ then takes _ _ (sym e ∙ peeked))

  -- a primary alone
  alone : (t ≡ BaseToken.PipeForType → ⊥) → NoPrefix t → Operates tk tv u c t s
  unfolding unaries unary within primary_or unary_end
  alone n h =
      rw (← prefix-none t c h, ne_eqb _ _ h.0.0.1)
      (peeks _ _ peeked then beside t _ _ ((((tt, n), h.0.0.1), h.0.1), h.1) then
      followed _ _ (λ a c s. (beside t _ _ h).same))

-- a primary, by its first tokens
module _ (tk tv : List ℕ) (u : ℕ) (piped : Bool) (c k : ℕ) {ks : List ℕ} where
  onward :
      {m : Holds} {p j : ℕ} → Onward (primary_or piped) tk c k m p j → {r : ParseResult (Read NodeId)} {ks' : List ℕ} →
      Gives (within m u (row tk tv)) p (nodes ks j) r ks' →
      Gives (within (primary_or piped) u (row tk tv)) c (nodes ks k) r ks'
  unfolding within
  onward h d = shows (record { same = h.same tv _ ks }) d

  module _ {o : Opening} (g : Starts piped tk c k o) where
    pub primary-refused :
        {e : ParsingError} → o ≡ Unopened e → Gives (within (primary_or piped) u (row tk tv)) c (nodes ks k) (Err e) ks
    unfolding Starts Opens within
    primary-refused q = (rw q at g) tv _ ks

    module _ {p : TokenId} {j : ℕ} {r : ParseResult (Read NodeId)} {ks' : List ℕ} where
      pub list-opened :
          {owner : Owner} → o ≡ Items p j owner →
          Gives (within (listed (owner_of owner)) u (row tk tv)) p.0 (nodes ks j) r ks' →
          Gives (within (primary_or piped) u (row tk tv)) c (nodes ks k) r ks'
      unfolding Starts Opens
      list-opened q d = onward (rw q at g) d

      pub fields-opened :
          {name : TokenId} → o ≡ Fields p j name →
          Gives (within (listed (structural name.0)) u (row tk tv)) p.0 (nodes ks j) r ks' →
          Gives (within (primary_or piped) u (row tk tv)) c (nodes ks k) r ks'
      unfolding Starts Opens
      fields-opened q d = onward (rw q at g) d

      pub reference-opened :
          {isPointer : Bool} {depth : ℕ} {name : TokenId} → o ≡ Reference p j isPointer depth name →
          Gives (within (referred c depth name.0 isPointer) u (row tk tv)) p.0 (nodes ks j) r ks' →
          Gives (within (primary_or piped) u (row tk tv)) c (nodes ks k) r ks'
      unfolding Starts Opens
      reference-opened q d = onward (rw q at g) d

      pub name-opened :
          o ≡ Name p j → Gives (name_alone words c) p.0 (nodes ks j) r ks' →
          Gives (within (primary_or piped) u (row tk tv)) c (nodes ks k) r ks'
      unfolding Starts Opens within named
      name-opened q d = onward (rw q at g) d

      pub group-opened :
          o ≡ Group p j → Gives (within grouped u (row tk tv)) p.0 (nodes ks j) r ks' →
          Gives (within (primary_or piped) u (row tk tv)) c (nodes ks k) r ks'
      unfolding Starts Opens
      group-opened q d = onward (rw q at g) d

    pub literal-opened :
        {t : ℕ} → o ≡ Plainly t → {r : ParseResult (Read NodeId)} {ks' : List ℕ} →
        Literal tk tv t c (nodes ks k) r ks' → Gives (within (primary_or piped) u (row tk tv)) c (nodes ks k) r ks'
    unfolding Starts within primary_or
    literal-opened q d =
        let (h, e) = rw q at g in
        rw e
        (d.run h.token h.no_ampersand h.no_identifier h.no_builtin h.no_bracket h.no_parenthesis _)

-- a name with its steps, and what follows a pointer
module _ (tk tv : List ℕ) (u c start depth name : ℕ) {s : Words} {r₁ : ParseResult (Read NodeId)} {ks₁ : List ℕ}
    (g : Gives (within (dereferring start depth name) u (row tk tv)) c s r₁ ks₁) where
  pub reference-refused :
      (isPointer : Bool) {e : ParsingError} → r₁ ≡ Err e →
      Gives (within (referred start depth name isPointer) u (row tk tv)) c s (Err e) ks₁
  unfolding within dereferring referred
  reference-refused true q = hands_on _ stays (told g q)
  reference-refused false q = rw q at g

  module _ {v : Read NodeId} (q : r₁ ≡ Ok v) {isPointer : Bool} where
    pub reference-alone :
        isPointer ≡ false → Gives (within (referred start depth name isPointer) u (row tk tv)) c s (Ok v) ks₁
    unfolding within dereferring referred
    reference-alone e = rw (e, ← q) g

    pub reference-advanced :
        isPointer ≡ true → {r : ParseResult (Read NodeId)} {ks : List ℕ} →
        Gives (within (advancing v.value.0) u (row tk tv)) v.cursor.0 (nodes ks₁ v.count) r ks →
        Gives (within (referred start depth name isPointer) u (row tk tv)) c s r ks
    unfolding within dereferring referred advancing
    reference-advanced e d = rw e (shows (reads _ (came-node g q)) d)

-- what may follow a pointer
module _ (tk tv : List ℕ) (u left c k : ℕ) {ks : List ℕ} {o : Optional TokenId}
    (d : Optionally tk BaseToken.Dots c o) where
  pub advance-none :
      o ≡ None →
      Gives (within (advancing left) u (row tk tv)) c (nodes ks k)
      (Ok (record { cursor = token c; count = k; value = node_id left })) ks
  unfolding within advancing advanced
  advance-none x = answers (at_here _ then reads _ (skipped d x tv))

  module _ {p : TokenId} (x : o ≡ Some p) {r₁ : ParseResult (Read NodeId)} {ks₁ : List ℕ}
      (g : Gives (expression words (row tk tv) u) p.0 (nodes ks k) r₁ ks₁) where
    pub advance-refused :
        {e : ParsingError} → r₁ ≡ Err e → Gives (within (advancing left) u (row tk tv)) c (nodes ks k) (Err e) ks₁
    unfolding within advancing advanced
    advance-refused q = hands_on _ (at_here _ then reads _ (taken d x tv)) (told g q)

    pub advance-read :
        {v : Read NodeId} → r₁ ≡ Ok v → {r : ParseResult (Read NodeId)} {ks' : List ℕ} →
        Gives (binary words c BinaryOp.AdvancePointer left v.value.0) v.cursor.0 (nodes ks₁ v.count) r ks' →
        Gives (within (advancing left) u (row tk tv)) c (nodes ks k) r ks'
    unfolding within advancing advanced
    advance-read q f = shows (at_here _ then reads _ (taken d x tv) then reads _ (came-node g q)) f

-- the end of a singular, by the token of its `cast`: that is c, if one stands there
cast-ends :
    (o : Optional TokenId) (c : TokenId) (row : Row) (ty : Rule Words ℕ) (e : ℕ) →
    singular_end words row ty (is_some (option_and o (Some c))) (cast_at (option_and o (Some c))) e ≡
    singular_end words row ty (is_some o) c.0 e
unfolding singular_end
cast-ends None c row ty e = refl
cast-ends (Some p) c row ty e = refl

-- a unary, with `cast` before and `as` after it
module _ (tk tv : List ℕ) (u : ℕ) (c : TokenId) (o : Optional TokenId) {from : TokenId} (w : from ≡ unwrap_or o c)
    {s : Words} {r₁ : ParseResult (Read NodeId)} {ks₁ : List ℕ} (g : Gives (unaries u (row tk tv)) from.0 s r₁ ks₁) where
  unary-after : Gives (unaries u (row tk tv)) (after c.0 o) s r₁ ks₁
  unary-after = rw (w, unwrapped o c) at g

  bare-read : Casting tk true c.0 o → Gives (factors true u (row tk tv)) c.0 s r₁ ks₁
  unfolding factors
  bare-read d = rw (d.alone refl) at unary-after

  pub singular-bare :
      {bare : Bool} → Casting tk bare c.0 o → bare ≡ true → Gives (factors bare u (row tk tv)) c.0 s r₁ ks₁
  singular-bare d e = rw e (bare-read (rw e at d))

  module _ {bare : Bool} (d : Casting tk bare c.0 o) (e : bare ≡ false) where
    pub singular-refused : {x : ParsingError} → r₁ ≡ Err x → Gives (factors bare u (row tk tv)) c.0 s (Err x) ks₁
    unfolding factors singular unaries
    singular-refused q =
        rw e (hands_on _ (at_here _ then reads _ (optioned ((rw e at d).whole refl) tv)) (told unary-after q))

    pub singular-read :
        {v : Read NodeId} → r₁ ≡ Ok v → {cast : Optional TokenId} → cast ≡ option_and o (Some c) →
        {r : ParseResult (Read NodeId)} {ks : List ℕ} →
        Gives (singular_end words (row tk tv) (type words (row tk tv) u) (is_some cast) (cast_at cast) v.value.0)
        v.cursor.0 (nodes ks₁ v.count) r ks → Gives (factors bare u (row tk tv)) c.0 s r ks
    unfolding factors singular unaries
    singular-read {v} q y f =
        rw e
        (shows
        (at_here _ then reads _ (optioned ((rw e at d).whole refl) tv) then reads _ (came-node unary-after q))
        (rw (y, cast-ends o c (row tk tv) (type words (row tk tv) u) v.value.0) at f))

-- a unary
module _ (tk tv : List ℕ) (u c t : ℕ) (peeked : t ≡ kind_in tk c) {s : Words} where
  pub size-read :
      t ≡ BaseToken.PipeForType → {r : ParseResult (Read NodeId)} {ks : List ℕ} →
      Gives (size_of words (row tk tv) (type words (row tk tv) u)) c s r ks →
      Gives (unaries u (row tk tv)) c s r ks
  unfolding unaries unary choose
  size-read e f = shows (peeks _ _ (sym e ∙ peeked)) f

  module _ (n : t ≡ BaseToken.PipeForType → ⊥) where
    unary-on : Operates tk tv u c t s
    unary-on = by-pipe (eqb t BaseToken.Pipe) refl
      where
        no : {key : ℕ} → eqb t key ≡ false → t ≡ key → ⊥
        no {key} e = eqb-false t key e

        by-minus :
            (t ≡ BaseToken.Pipe → ⊥) → (t ≡ BaseToken.Exclamation → ⊥) → (b : Bool) → eqb t BaseToken.Minus ≡ b →
            Operates tk tv u c t s
        by-minus h h' true e = operator tk tv u c t peeked negative (eqb-true t _ e)
        by-minus h h' false e = alone tk tv u c t peeked n (((tt, h), h'), no e)

        by-exclamation :
            (t ≡ BaseToken.Pipe → ⊥) → (b : Bool) → eqb t BaseToken.Exclamation ≡ b →
            Operates tk tv u c t s
        by-exclamation h true e = operator tk tv u c t peeked complement (eqb-true t _ e)
        by-exclamation h false e = by-minus h (no e) (eqb t BaseToken.Minus) refl

        by-pipe :
            (b : Bool) → eqb t BaseToken.Pipe ≡ b →
            Operates tk tv u c t s
        by-pipe true e = piped tk tv u c t peeked (eqb-true t _ e)
        by-pipe false e = by-exclamation (no e) (eqb t BaseToken.Exclamation) refl

    module _ {from : TokenId} (w : from.0 ≡ prefix_end t c) {r₁ : ParseResult (Read NodeId)} {ks₁ : List ℕ}
        (g : Gives (within (primary_or (eqb t BaseToken.Pipe)) u (row tk tv)) from.0 s r₁ ks₁) where
      pub unary-refused : {e : ParsingError} → r₁ ≡ Err e → Gives (unaries u (row tk tv)) c s (Err e) ks₁
      unary-refused q = hands_on _ unary-on (told (rw w at g) q)

      pub unary_read :
          {v : Read NodeId} → r₁ ≡ Ok v → {r : ParseResult (Read NodeId)} {ks : List ℕ} →
          Untyped parsed (unary_end t c v.value.0) tk v.cursor.0 (nodes ks₁ v.count) r ks →
          Gives (unaries u (row tk tv)) c s r ks
      unary_read q f = shows (unary-on then reads _ (came-node (rw w at g) q)) (f.run tv)

      -- without a prefix the operand is the whole
      pub unary-plain : from.0 ≡ c → Gives (unaries u (row tk tv)) c s r₁ ks₁
      unary-plain e = by_answer r₁ refl
        where
          by_answer : (r : ParseResult (Read NodeId)) → r₁ ≡ r → Gives (unaries u (row tk tv)) c s r₁ ks₁
          by_answer (Ok v) q =
              rw q (unary_read q (primary-ends tk t c v.value.0 v.cursor.0 v.count (no-prefix t c (sym w ∙ e))))
          by_answer (Err e) q = rw q (unary-refused q)

  -- a decimal number has no prefix
  pub decimal-read :
      t ≡ BaseToken.NakedDecimal → {r : ParseResult (Read NodeId)} {ks : List ℕ} → Literal tk tv t c s r ks →
      Gives (unaries u (row tk tv)) c s r ks
  unfolding within primary_or
  decimal-read e {r} {ks} d =
      let number : Gives (within (primary_or (eqb t BaseToken.Pipe)) u (row tk tv)) c s r ks =
      rw e (d.run peeked (no refl) (no refl) (no refl) (no refl) (no refl) _) in
      unary-plain (no refl) {from = token c} (rw e refl) number refl
    where
      no : {key : ℕ} → eqb BaseToken.NakedDecimal key ≡ false → t ≡ key → ⊥
      no {key} q h = eqb-false _ key q (sym e ∙ h)

-- an item of a list, or its end
module _ (tk tv : List ℕ) (u closing c k : ℕ) (l : CountedList) {ks : List ℕ} {o : Optional TokenId}
    (d : Optionally tk closing c o) where
  pub item-none :
      {p : TokenId} → o ≡ Some p →
      As turned (list_items closing (counted l) u (row tk tv)) c (nodes ks k)
      (Ok (record { cursor = p; count = k; value = Last l })) ks
  unfolding list_items list_item
  item-none {p} x =
      let g : As turned (list_items closing (counted l) u (row tk tv)) c (nodes ks k)
      (Ok (record { cursor = p; count = k; value = Last (counted_list (counted l)) })) ks =
      answers (reads _ (taken d x tv)) in
      rw (counted-back l) at g

  module _ (x : o ≡ None) (h : eqb closing BaseToken.BraceRight ≡ false) {r₁ : ParseResult (Read NodeId)}
      {ks₁ : List ℕ} (g : Gives (expression words (row tk tv) u) c (nodes ks k) r₁ ks₁) where
    pub item-refused :
        {e : ParsingError} → r₁ ≡ Err e →
        As turned (list_items closing (counted l) u (row tk tv)) c (nodes ks k) (Err e) ks₁
    unfolding list_items list_item
    item-refused q = rw h (hands_on _ (reads _ (skipped d x tv)) (told g q))

    pub item-read :
        {v : Read NodeId} → r₁ ≡ Ok v → {r : ParseResult (Read (Turn CountedList))} {ks' : List ℕ} →
        Untyped turned (ending closing (counted l) v.value.0) tk v.cursor.0 (nodes ks₁ v.count) r ks' →
        As turned (list_items closing (counted l) u (row tk tv)) c (nodes ks k) r ks'
    unfolding list_items list_item ending
    item-read q f = rw h (shows (reads _ (skipped d x tv) then reads _ (came-node g q)) (f.run tv))

-- a field after which the list may end
pub field-item :
    (tk tv : List ℕ) (u c : ℕ) (l : CountedList) {s : Words} {o : Optional TokenId} →
    Optionally tk BaseToken.BraceRight c o → o ≡ None → {r : ParseResult (Read (Turn CountedList))} {ks' : List ℕ} →
    As turned (fields (counted l) u (row tk tv)) c s r ks' →
    As turned (list_items BaseToken.BraceRight (counted l) u (row tk tv)) c s r ks'
unfolding list_items list_item fields
field-item tk tv u c l d x f = shows (reads _ (skipped d x tv)) f

-- a field, and what stands after it
module _ (tk tv : List ℕ) (u c : ℕ) (l : CountedList) {k : ℕ} {ks : List ℕ} {o : ParseResult TokenId}
    (g : Quiet consumed (consuming BaseToken.Identifier) tk c k o) where
  pub field-unnamed :
      {e : ParsingError} → o ≡ Err e →
      As turned (fields (counted l) u (row tk tv)) c (nodes ks k) (Err e) ks
  unfolding fields field consuming
  field-unnamed w = hands_on _ (first _ (at_here _) then regroup _ _ _ _ _) (told (g.run tv ks) w)

  module _ {w : TokenId} (q : o ≡ Ok w) {v : Optional TokenId} (d : Optionally tk BaseToken.Colon w.0 v) where
    field-on :
        (b : Bool) {a : ℕ} →
        Onto (optional (row tk tv) BaseToken.Colon) w.0 (nodes ks k) (pure b) a (nodes ks k) →
        Onto (fields (counted l) u (row tk tv)) c (nodes ks k)
        (pick b (expression words (row tk tv) u) (name_alone words c) >>= λ e.
        field_end (counted l) c e (row tk tv)) a (nodes ks k)
    unfolding fields field consuming field_end
    field-on b e =
        first _ (at_here _ then reads _ (came-consumed _ g q tv ks) then reads _ e) then regroup _ _ _ _ _

    pub field-short :
        v ≡ None → {r : ParseResult (Read (Turn CountedList))} {ks' : List ℕ} →
        Untyped turned (shorthand_end (counted l) c) tk w.0 (nodes ks k) r ks' →
        As turned (fields (counted l) u (row tk tv)) c (nodes ks k) r ks'
    unfolding shorthand_end
    field-short x f = shows (field-on false (skipped d x tv)) (f.run tv)

    module _ {p : TokenId} (x : v ≡ Some p) {r₁ : ParseResult (Read NodeId)} {ks₁ : List ℕ}
        (f : Gives (expression words (row tk tv) u) p.0 (nodes ks k) r₁ ks₁) where
      pub field-refused :
          {e : ParsingError} → r₁ ≡ Err e →
          As turned (fields (counted l) u (row tk tv)) c (nodes ks k) (Err e) ks₁
      field-refused y = hands_on _ (field-on true (taken d x tv)) (told f y)

      pub field-read :
          {a : Read NodeId} → r₁ ≡ Ok a → {r : ParseResult (Read (Turn CountedList))} {ks' : List ℕ} →
          Untyped turned (field_end (counted l) c a.value.0) tk a.cursor.0 (nodes ks₁ a.count) r ks' →
          As turned (fields (counted l) u (row tk tv)) c (nodes ks k) r ks'
      field-read y h = shows (field-on true (taken d x tv) then reads _ (came-node f y)) (h.run tv)
