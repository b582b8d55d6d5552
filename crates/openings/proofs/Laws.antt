-- How the start of a primary goes on, a law for each return.
use mathlib.Core.Path.{◌≡◌, refl, sym, ◌∙◌}
use mathlib.Core.Bool.{Bool, true, false}
use mathlib.Core.Option.{none}
use mathlib.Core.List.{List, [], ◌∷◌}
use Prim.Native.Nat.{ℕ, ◌+◌}
use native.Mathlib.Omega.{arith}
use mathlib.Core.Logic.{◌⊎◌, inl, inr}
use Rattle.std.specs.Prelude.{Ok, Err}
use Rattle.codes.specs.declared.ParsingError.{ParsingError}
use Rattle.codes.specs.declared.Read.{Read}
use Rattle.codes.specs.declared.TokenId.{TokenId}
use Rattle.codes.specs.Answer.{ParseResult, row, token}
use Rattle.codes.specs.Words.{Quiet, Sized}
use Rattle.codes.proofs.Onto.{Onto, ◌then◌, first, stays, reads, at_here, takes, shows, told, hands_on}
use Rattle.codes.proofs.Onto.{Rest, sized-after}
use Rattle.codes.proofs.Loops.{round-last}
use Rattle.tokens.specs.Answer.{kind_in, consumed, consuming}
use Rattle.tokens.proofs.Laws.{came-consumed, there, not_there, apart}
use Rattle.tokens.proofs.Bounds.{past-token, past-consumed}
use Rattle.references.specs.declared.Address.{Address}
use Rattle.references.specs.Answer.{addressed, addressing}
use Rattle.references.proofs.Laws.{plain-addressed, came-address}
use Rattle.lists.specs.declared.Owner.TheVariants.{Call, Elements}
use Rattle.openings.specs.declared.Opening.{Opening}
use Rattle.openings.specs.declared.Opening.TheVariants.{List as Items, Fields, Reference, Name, Group, Literal}
use Rattle.openings.specs.declared.Opening.TheVariants.{Refused}
use Rattle.openings.specs.Answer.{Holds, Onward, Opens, Starts, listed, referred, alone, grouped}
use Rattle.openings.specs.Answer.{naming, calling, pointing, primary_or}
use Rattle.rules.specs.Codes.BaseToken as BaseToken
use Rattle.rules.specs.Reading.{Rule, ◌>>=◌, choose}
use Rattle.rules.specs.Words.{Words, words, push_end_of_list}
use Rattle.rules.specs.Expressions.{named, builtin, pointer, reference, primary, stepped, steps, step, deref}
use Rattle.rules.specs.Expressions.{name_alone, elements}
use Rattle.rules.proofs.Forward.{Nonzero}
use Rattle.rules.proofs.Forward.{below}
use Rattle.rules.proofs.Moves.{address-moves}

-- what every reader takes for granted holds after a name and the ampersands before it
past-address :
    (tk tv : List ℕ) (start : ℕ) (ns : List ℕ) {c k : ℕ} {a : ParseResult (Read Address)} →
    Quiet addressed (addressing start) tk c k a →
    {v : Read Address} → a ≡ Ok v → Sized tk tv ns c k → Sized tk tv ns v.cursor.0 v.count
unfolding addressing
past-address tk tv start ns {c = c} g {v} e z =
    (sized-after z plain-addressed (address-moves (below (row tk tv)) (omega arith) start c)
    (g.run tv ns) {a = (v.value.depth, v.value.name.0)} e).0

-- after a name, by the next token
module _ (tk : List ℕ) (name : TokenId) (c t k : ℕ) (peeked : t ≡ kind_in tk c) where
  pub call_opens :
      t ≡ BaseToken.ParenLeft → Opens (naming name.0) tk name.0 c k (Items (token (c + 1)) k (Call name 0))
  unfolding Opens naming listed named
  call_opens e = record {
    same = λ tv expr ks. (reads _ (there tk c t peeked tv _ e)).same;
    sized = λ tv ks z. past-token t _ peeked e refl z;
  }

  pub fields_open :
      t ≡ BaseToken.BraceLeft → Opens (naming name.0) tk name.0 c k (Fields (token (c + 1)) k name)
  unfolding Opens naming listed named
  fields_open e = record {
    same = λ tv expr ks.
        (reads _ (not_there tk c t peeked tv _ (apart t _ _ refl e)) then reads _ (there tk c t peeked tv _ e)).same;
    sized = λ tv ks z. past-token t _ peeked e refl z;
  }

  -- neither arguments nor fields follow
  steps-follow :
      (t ≡ BaseToken.ParenLeft → ⊥) → (t ≡ BaseToken.BraceLeft → ⊥) → (tv : List ℕ) (expr : Rule Words ℕ) {s : Words} →
      Onto (named words (row tk tv) expr name.0) c s (stepped words (row tk tv) expr name.0 0 name.0) c s
  unfolding named
  steps-follow h h' tv expr = reads _ (not_there tk c t peeked tv _ h) then reads _ (not_there tk c t peeked tv _ h')

  -- no step follows
  no_steps :
      (tv : List ℕ) (expr : Rule Words ℕ) {s : Words} → (t ≡ BaseToken.BracketLeft → ⊥) → (t ≡ BaseToken.Dot → ⊥) →
      Onto (stepped words (row tk tv) expr name.0 0 name.0) c s
      (push_end_of_list none >>= λ l. deref words name.0 0 name.0 l) c s
  unfolding stepped steps step
  no_steps tv expr h h' =
      first _ (at_here _ then reads _ (round-last _ _ _
      (reads _ (not_there tk c t peeked tv _ h) then reads _ (not_there tk c t peeked tv _ h'))))

  pub steps-open :
      (t ≡ BaseToken.BracketLeft) ⊎ (t ≡ BaseToken.Dot) →
      Opens (naming name.0) tk name.0 c k (Reference (token c) k false 0 name)
  unfolding Opens naming referred
  steps-open (inl e) = record {
    same = λ tv expr ks. (steps-follow (apart t _ _ refl e) (apart t _ _ refl e) tv expr).same;
    sized = λ tv ks z. z;
  }
  steps-open (inr e) = record {
    same = λ tv expr ks. (steps-follow (apart t _ _ refl e) (apart t _ _ refl e) tv expr).same;
    sized = λ tv ks z. z;
  }

  -- a name with no step
  pub name-opens :
      Rest t (Unit {0}) (BaseToken.ParenLeft ∷ BaseToken.BraceLeft ∷ []) ×
      ((t ≡ BaseToken.BracketLeft) ⊎ (t ≡ BaseToken.Dot) → ⊥) →
      Opens (naming name.0) tk name.0 c k (Name (token c) k)
  unfolding Opens naming alone name_alone
  name-opens h = record {
    same = λ tv expr ks.
        (steps-follow h.0.0.1 h.0.1 tv expr then no_steps tv expr (λ e. h.1 (inl e))
        (λ e. h.1 (inr e))).same;
    sized = λ tv ks z. z;
  }

-- after a Builtin
module _ {tk : List ℕ} (name : TokenId) {c k : ℕ} {o : ParseResult TokenId}
    (g : Quiet consumed (consuming BaseToken.ParenLeft) tk c k o) where
  pub builtin-opens :
      {p : TokenId} → o ≡ Ok p → Opens (calling name.0) tk name.0 c k (Items p k (Call name 1))
  unfolding Opens calling listed builtin consuming
  builtin-opens e = record {
    same = λ tv expr ks. (reads _ (came-consumed BaseToken.ParenLeft g e tv ks)).same;
    sized = λ tv ks z. past-consumed _ g e refl z;
  }

  pub builtin-refused : {x : ParsingError} → o ≡ Err x → Opens (calling name.0) tk name.0 c k (Refused x)
  unfolding Opens calling builtin consuming
  builtin-refused e tv expr ks = hands_on _ stays (told (g.run tv ks) e)

-- after an ampersand or a pipe
module _ {tk : List ℕ} (start : ℕ) {c k : ℕ} {a : ParseResult (Read Address)}
    (g : Quiet addressed (addressing start) tk c k a) where
  pub pointer-opens :
      {v : Read Address} → a ≡ Ok v →
      Opens (pointing start) tk start c k (Reference v.cursor v.count true v.value.depth v.value.name)
  unfolding Opens pointing referred pointer addressing
  pointer-opens e = record {
    same = λ tv expr ks. (reads _ (came-address (g.run tv ks) e)).same;
    sized = λ tv ks z. past-address tk tv start ks g e z;
  }

  pub pointer-refused : {x : ParsingError} → a ≡ Err x → Opens (pointing start) tk start c k (Refused x)
  unfolding Opens pointing pointer addressing
  pointer-refused e tv expr ks = hands_on _ stays (told (g.run tv ks) e)

module _ {tk : List ℕ} {c k : ℕ} {a : ParseResult (Read Address)} (g : Quiet addressed (addressing c) tk c k a) where
  pub pipe-opens :
      {v : Read Address} → a ≡ Ok v →
      Opens (primary_or true) tk c c k (Reference v.cursor v.count false 0 v.value.name)
  unfolding Opens primary_or referred reference addressing
  pipe-opens e = record {
    same = λ tv expr ks. (at_here _ then reads _ (came-address (g.run tv ks) e)).same;
    sized = λ tv ks z. past-address tk tv c ks g e z;
  }

  pub pipe-refused : {x : ParsingError} → a ≡ Err x → Opens (primary_or true) tk c c k (Refused x)
  unfolding Opens primary_or reference addressing
  pipe-refused e tv expr ks = hands_on _ (at_here _) (told (g.run tv ks) e)

-- the primaries that hold a name or an expression, by their first token
pub data Begins (start : ℕ) : ℕ → Holds → Type 0 where
  with-name : Begins start BaseToken.Identifier (naming start)
  with-builtin : Begins start BaseToken.Builtin (calling start)
  with-ampersand : Begins start BaseToken.Ampersand (pointing start)
  with-bracket : Begins start BaseToken.BracketLeft (listed elements)
  with-parenthesis : Begins start BaseToken.ParenLeft grouped

module _ (tk : List ℕ) (c t k : ℕ) (peeked : t ≡ kind_in tk c) where
  begins :
      {key : ℕ} {m : Holds} → Begins c key m → t ≡ key → (tv : List ℕ) (expr : Rule Words ℕ) {s : Words} →
      Onto (primary words (row tk tv) expr) c s (m (row tk tv) expr) (c + 1) s
  unfolding primary choose naming calling pointing listed grouped
  begins with-name e tv expr = at_here _ then takes _ _ (sym e ∙ peeked)
  begins with-builtin e tv expr = at_here _ then takes _ _ (sym e ∙ peeked)
  begins with-ampersand e tv expr = at_here _ then takes _ _ (sym e ∙ peeked)
  begins with-bracket e tv expr = at_here _ then takes _ _ (sym e ∙ peeked)
  begins with-parenthesis e tv expr = at_here _ then takes _ _ (sym e ∙ peeked)

  nonzero : {key : ℕ} {m : Holds} → Begins c key m → Nonzero key
  nonzero with-name = refl
  nonzero with-builtin = refl
  nonzero with-ampersand = refl
  nonzero with-bracket = refl
  nonzero with-parenthesis = refl

  -- a primary goes on as what it begins
  onward :
      {key : ℕ} {m : Holds} → Begins c key m → t ≡ key → {m' : Holds} {p j : ℕ} → Onward m tk (c + 1) k m' p j →
      Onward (primary_or false) tk c k m' p j
  unfolding primary_or
  onward b e h = record {
    same = λ tv expr ks. (begins b e tv expr).same ∙ h.same tv expr ks;
    sized = λ tv ks z. h.sized tv ks (past-token t _ peeked e (nonzero b) z);
  }

  opened :
      {key : ℕ} {m : Holds} → Begins c key m → t ≡ key → (r : Opening) → Opens m tk c (c + 1) k r →
      Starts false tk c k r
  unfolding Starts Opens primary_or
  opened b e (Items p j owner) h = onward b e h
  opened b e (Fields p j name) h = onward b e h
  opened b e (Reference p j is_pointer depth name) h = onward b e h
  opened b e (Name p j) h = onward b e h
  opened b e (Group p j) h = onward b e h
  opened b e (Literal u) h = absurd h
  opened b e (Refused x) h = λ tv expr ks. shows (begins b e tv expr) (h tv expr ks)

  module _ {piped : Bool} (not-piped : piped ≡ false) where
    pub primary-opens :
        {key : ℕ} {m : Holds} → Begins c key m → t ≡ key → (r : Opening) → Opens m tk c (c + 1) k r →
        Starts piped tk c k r
    primary-opens b e r h = rw not-piped (opened b e r h)

    pub elements-open : t ≡ BaseToken.BracketLeft → Starts piped tk c k (Items (token (c + 1)) k Elements)
    unfolding Opens
    elements-open e =
        primary-opens with-bracket e _ (record { same = λ tv expr ks. refl; sized = λ tv ks z. z })

    pub group-opens : t ≡ BaseToken.ParenLeft → Starts piped tk c k (Group (token (c + 1)) k)
    unfolding Opens
    group-opens e =
        primary-opens with-parenthesis e _ (record { same = λ tv expr ks. refl; sized = λ tv ks z. z })

    pub literal-opens :
        Rest t (Unit {0}) (BaseToken.Identifier ∷ BaseToken.Builtin ∷ BaseToken.Ampersand ∷ BaseToken.BracketLeft ∷
        BaseToken.ParenLeft ∷ []) →
        Starts piped tk c k (Literal t)
    unfolding Starts
    literal-opens h = (
      record {
        token = peeked;
        no_ampersand = h.0.0.1;
        no_identifier = h.0.0.0.0.1;
        no_builtin = h.0.0.0.1;
        no_bracket = h.0.1;
        no_parenthesis = h.1;
      },
      not-piped,
    )

piped-opens :
    (tk : List ℕ) (c k : ℕ) (r : Opening) → Opens (primary_or true) tk c c k r → Starts true tk c k r
unfolding Starts Opens
piped-opens tk c k (Items p j owner) h = h
piped-opens tk c k (Fields p j name) h = h
piped-opens tk c k (Reference p j is_pointer depth name) h = h
piped-opens tk c k (Name p j) h = h
piped-opens tk c k (Group p j) h = h
piped-opens tk c k (Literal u) h = absurd h
piped-opens tk c k (Refused x) h = h

pub reference-opens :
    (tk : List ℕ) (c k : ℕ) {piped : Bool} → piped ≡ true → (r : Opening) →
    Opens (primary_or true) tk c c k r → Starts piped tk c k r
reference-opens tk c k e r h = rw e (piped-opens tk c k r h)
