-- What the readers of expressions take for granted holds where they are called, and after them.
use mathlib.Core.Path.{◌≡◌, refl, ap}
use mathlib.Core.Bool.{Bool, true, false}
use mathlib.Core.List.{List}
use Prim.Native.Nat.{ℕ, ◌+◌, ◌≤◌, ◌<◌}
use native.Mathlib.Omega.{arith}
use lib.ListN.{length}
use lib.Dec.{eqb}
use borrow.Author.Tests.{eqb-true}
use Rattle.std.specs.Prelude.{Ok, Some, None}
use Rattle.std.specs.Prelude.{Option as Optional}
use Rattle.std.specs.Option.{unwrap_or, option_and}
use Rattle.codes.specs.declared.NodeId.{NodeId}
use Rattle.codes.specs.declared.Read.{Read}
use Rattle.codes.specs.declared.TokenId.{TokenId}
use Rattle.codes.specs.Answer.{ParseResult, row}
use Rattle.codes.specs.Words.{Gives, Quiet, Sized, nodes}
use Rattle.codes.proofs.Onto.{split, sized-after, plain-parsed, moved, came-node}
use Rattle.nodes.specs.Answer.{WithinSlots}
use Rattle.nodes.proofs.Bounds.{slots, append-last}
use Rattle.tokens.specs.Answer.{kind_in, after, Optionally, consumed, consuming}
use Rattle.tokens.proofs.Bounds.{past-found, past-optional, past-token, past-consumed, in_row}
use Rattle.casts.specs.Answer.{Casting, cast_at}
use Rattle.lists.specs.declared.Owner.{Owner}
use Rattle.lists.specs.Answer.{Small}
use Rattle.openings.specs.declared.Opening.{Opening}
use Rattle.openings.specs.declared.Opening.TheVariants.{List as Items, Fields, Reference, Name, Group}
use Rattle.openings.specs.Answer.{Opens, Starts, Fits, primary_or}
use Rattle.expressions.specs.Answer.{prefix_end, unaries, operand, factors, within, dereferring}
use Rattle.rules.specs.Codes.{pick}
use Rattle.rules.specs.Codes.Limit as Limit
use Rattle.rules.specs.Codes.BaseToken as BaseToken
use Rattle.rules.specs.Reading.{Rule, Outcome, ok}
use Rattle.rules.specs.Words.{Words, words}
use Rattle.rules.specs.Expressions.{expression, stepped, deref}
use Rattle.rules.proofs.Roots.{Rooted, unary-root, singular-root, product-root}
use Rattle.rules.proofs.Forward.{below}
use Rattle.rules.proofs.Forward.{Nonzero, picks}
use Rattle.rules.proofs.Moves.{type-moves, expression-moves, stepped-stays, reference-moves, primary-moves, unary-moves}
use Rattle.rules.proofs.Moves.{singular-moves, operand-moves}

-- the number of the node that a rule reads fits a load
pub root-fits :
    {m : Rule Words ℕ} → Rooted m → {tk tv ns : List ℕ} {c k : ℕ} {r : ParseResult (Read NodeId)} {ns' : List ℕ} →
    Gives m c (nodes ns k) r ns' → {v : Read NodeId} → r ≡ Ok v →
    Sized tk tv ns c k → Sized tk tv ns' v.cursor.0 v.count → v.value.0 ≤ Limit.Load
root-fits {m} h {ns = ns} {c} {k} g {v} q z y =
    let e = (came-node g q).same in
    let a : (m c (nodes ns k)).result ≡ ok v.value.0 = ap (λ (o : Outcome Words ℕ). o.result) e in
    let d : (m c (nodes ns k)).state.count ≡ v.count = ap (λ (o : Outcome Words ℕ). o.state.count) e in
    let b = h (nodes ns k) c v.value.0 z.used a in
    omega (arith, y.used, y.slots)

-- after an expression
module _ {tk tv ns : List ℕ} {c k : ℕ} (u : ℕ) {r : ParseResult (Read NodeId)} {ns' : List ℕ}
    (g : Gives (expression words (row tk tv) u) c (nodes ns k) r ns') {v : Read NodeId}
    (q : r ≡ Ok v) (z : Sized tk tv ns c k) where
  pub after-expression : Sized tk tv ns' v.cursor.0 v.count × (c < v.cursor.0)
  after-expression = sized-after z plain-parsed (expression-moves (below (row tk tv)) (omega arith) u c) g q

  pub past-expression : v.cursor.0 ≤ Limit.Tokens + 1
  past-expression = let y = after-expression.0 in omega arith

  pub expression-slots : WithinSlots ns' v.count
  expression-slots = slots after-expression.0

  -- what is among the nodes before is so after it
  pub expression-kept : {n : ℕ} → n ≤ k → n ≤ v.count
  expression-kept h =
      let (_, _, w) =
      moved (came-node g q) (expression-moves (below (row tk tv)) (omega arith) u c) z.used z.at in
      omega (arith, w.grew)

-- after the name of a field, and the colon after it, if there is one
module _ {tk tv ns : List ℕ} {c k : ℕ} {o : ParseResult TokenId}
    (g : Quiet consumed (consuming BaseToken.Identifier) tk c k o) {w : TokenId} (q : o ≡ Ok w) (z : Sized tk tv ns c k)
  where
    pub past-name : w.0 ≤ Limit.Tokens + 1
    past-name = let y = past-consumed _ g q refl z in omega arith

    module _ {v : Optional TokenId} (d : Optionally tk BaseToken.Colon w.0 v) where
      pub colon-sized : Sized tk tv ns (after w.0 v) k
      colon-sized = past-optional d refl (past-consumed _ g q refl z)

      pub colon-found : {p : TokenId} → v ≡ Some p → Sized tk tv ns p.0 k
      colon-found x = rw x at colon-sized

-- after the first tokens of a primary
module _ (tk : List ℕ) (piped : Bool) (c k : ℕ) {o : Opening} (g : Starts piped tk c k o) {tv ks : List ℕ}
    (z : Sized tk tv ks c k) {p : TokenId} {j : ℕ} where
  pub list-sized : {owner : Owner} → o ≡ Items p j owner → Sized tk tv ks p.0 j
  unfolding Starts Opens
  list-sized q = (rw q at g).sized tv ks z

  pub fields-sized : {name : TokenId} → o ≡ Fields p j name → Sized tk tv ks p.0 j
  unfolding Starts Opens
  fields-sized q = (rw q at g).sized tv ks z

  pub reference-sized :
      {isPointer : Bool} {depth : ℕ} {name : TokenId} → o ≡ Reference p j isPointer depth name → Sized tk tv ks p.0 j
  unfolding Starts Opens
  reference-sized q = (rw q at g).sized tv ks z

  pub group-sized : o ≡ Group p j → Sized tk tv ks p.0 j
  unfolding Starts Opens
  group-sized q = (rw q at g).sized tv ks z

  pub name-slots : o ≡ Name p j → WithinSlots ks j
  unfolding Starts Opens
  name-slots q = slots ((rw q at g).sized tv ks z)

-- and what they hold fits
module _ {o : Opening} (g : Fits o) {p : TokenId} {j : ℕ} where
  pub owner-fits : {owner : Owner} → o ≡ Items p j owner → Small owner
  owner-fits q = rw q at g

  pub fields_fit : {name : TokenId} → o ≡ Fields p j name → name.0 ≤ Limit.Load
  fields_fit q = rw q at g

-- after a name and its steps
module _ {tk tv ns : List ℕ} {c k : ℕ} (u start depth name : ℕ) {r : ParseResult (Read NodeId)} {ns' : List ℕ}
    (g : Gives (within (dereferring start depth name) u (row tk tv)) c (nodes ns k) r ns') {v : Read NodeId}
    (q : r ≡ Ok v) (z : Sized tk tv ns c k) where
  pub after-deref : Sized tk tv ns' v.cursor.0 v.count
  unfolding within dereferring
  after-deref =
      (sized-after z plain-parsed
      (stepped-stays (below (row tk tv)) (omega arith) (expression-moves (below (row tk tv)) (omega arith) u) start depth
      name c) g q).0

  pub deref-fits : v.value.0 ≤ Limit.Load
  unfolding within dereferring stepped deref
  deref-fits =
      let y = after-deref in
      let one = split (came-node g q) in
      let two = split one.two in
      let three = split two.two in
      let four = split three.two in
      let d = append-last _ _ four.two in
      omega arith

-- after a token that may stand here, where it begins what follows
pub past-either :
    {tk tv ns : List ℕ} {key : ℕ} {c : TokenId} {k : ℕ} {o : Optional TokenId} → Optionally tk key c.0 o →
    Nonzero key → {from : TokenId} → from ≡ unwrap_or o c → Sized tk tv ns c.0 k → Sized tk tv ns from.0 k
past-either {o = None} d n e z = rw e z
past-either {o = Some p} d n e z = rw e (past-found d n refl z)

-- after a `cast`, if there is one
pub past-cast :
    {tk tv ns : List ℕ} {c : TokenId} {k : ℕ} (bare : Bool) {o : Optional TokenId} → Casting tk bare c.0 o →
    {from : TokenId} → from ≡ unwrap_or o c → Sized tk tv ns c.0 k → Sized tk tv ns from.0 k
past-cast true d e z = rw (e, d.alone refl) z
past-cast false d e z = past-either (d.whole refl) refl e z

-- and its token fits a load
pub cast-fits :
    (o : Optional TokenId) {cast : Optional TokenId} (c : TokenId) → cast ≡ option_and o (Some c) →
    {tk tv ns : List ℕ} {k : ℕ} → Sized tk tv ns c.0 k → cast_at cast ≤ Limit.Load
cast-fits None c e z = rw e (omega arith)
cast-fits (Some p) c e z = rw e (omega (arith, z.at, z.tokens))

-- after a unary
module _ {tk tv ns : List ℕ} {c k : ℕ} (u : ℕ) {r : ParseResult (Read NodeId)} {ns' : List ℕ}
    (g : Gives (unaries u (row tk tv)) c (nodes ns k) r ns') {v : Read NodeId} (q : r ≡ Ok v) (z : Sized tk tv ns c k)
  where
    pub after-unary : Sized tk tv ns' v.cursor.0 v.count
    unfolding unaries
    after-unary =
        (sized-after z plain-parsed
        (unary-moves (below (row tk tv)) (omega arith) (expression-moves (below (row tk tv)) (omega arith) u)
        (type-moves (below (row tk tv)) (omega arith) u) c) g q).0

    pub unary-fits : v.value.0 ≤ Limit.Load
    unfolding unaries
    unary-fits = root-fits {m = unaries u (row tk tv)} (unary-root (row tk tv) u) g q z after-unary

picked-root : (b : Bool) (x y : Rule Words ℕ) → Rooted x → Rooted y → Rooted (pick b x y)
picked-root true x y h g = h
picked-root false x y h g = g

-- after an operand of a sum, and of a product
module _ {tk tv ns : List ℕ} {c k : ℕ} (u : ℕ) (bare : Bool) {r : ParseResult (Read NodeId)} {ns' : List ℕ}
    {v : Read NodeId} where
  module _ (g : Gives (operand bare u (row tk tv)) c (nodes ns k) r ns') (q : r ≡ Ok v) (z : Sized tk tv ns c k) where
    pub after-operand : Sized tk tv ns' v.cursor.0 v.count × (c < v.cursor.0)
    unfolding operand unaries
    after-operand =
        sized-after z plain-parsed
        (operand-moves (below (row tk tv)) (omega arith) (expression-moves (below (row tk tv)) (omega arith) u)
        (type-moves (below (row tk tv)) (omega arith) u) bare c) g q

    pub past-term : v.cursor.0 ≤ Limit.Tokens + 1
    past-term = let y = after-operand.0 in omega arith

    pub term-slots : WithinSlots ns' v.count
    term-slots = slots after-operand.0

    pub term_fits : v.value.0 ≤ Limit.Load
    unfolding operand unaries
    term_fits = root-fits {m = operand bare u (row tk tv)} operand-root g q z after-operand.0
      where
        operand-root : Rooted (operand bare u (row tk tv))
        operand-root = picked-root bare _ _ (unary-root (row tk tv) u) (product-root (row tk tv) u)

  module _ (g : Gives (factors bare u (row tk tv)) c (nodes ns k) r ns') (q : r ≡ Ok v) (z : Sized tk tv ns c k) where
    pub after-factor : Sized tk tv ns' v.cursor.0 v.count × (c < v.cursor.0)
    unfolding factors unaries
    after-factor =
        let x = expression-moves (below (row tk tv)) (omega arith) u in
        let y = type-moves (below (row tk tv)) (omega arith) u in
        sized-after z plain-parsed
        (picks bare (unary-moves (below (row tk tv)) (omega arith) x y c)
        (singular-moves (below (row tk tv)) (omega arith) x y c)) g q

    pub past-factor : v.cursor.0 ≤ Limit.Tokens + 1
    past-factor = let y = after-factor.0 in omega arith

    pub factor-slots : WithinSlots ns' v.count
    factor-slots = slots after-factor.0

    pub factor-fits : v.value.0 ≤ Limit.Load
    unfolding factors unaries
    factor-fits = root-fits {m = factors bare u (row tk tv)} factor-root g q z after-factor.0
      where
        factor-root : Rooted (factors bare u (row tk tv))
        factor-root = picked-root bare _ _ (unary-root (row tk tv) u) (singular-root (row tk tv) u)

-- after a unary and the `cast` before it
module _ {tk tv ns : List ℕ} {c : TokenId} {k : ℕ} (u : ℕ) (bare : Bool) {o : Optional TokenId}
    (d : Casting tk bare c.0 o) {from : TokenId} (e : from ≡ unwrap_or o c) {r : ParseResult (Read NodeId)}
    {ns' : List ℕ} (g : Gives (unaries u (row tk tv)) from.0 (nodes ns k) r ns') {v : Read NodeId} (q : r ≡ Ok v)
    (z : Sized tk tv ns c.0 k) where
  pub after-cast-unary : Sized tk tv ns' v.cursor.0 v.count
  after-cast-unary = after-unary u g q (past-cast bare d e z)

  pub cast-unary-fits : v.value.0 ≤ Limit.Load
  cast-unary-fits = unary-fits u g q (past-cast bare d e z)

-- after `..` and its expression
module _
    {tk tv ns : List ℕ} {c k : ℕ} (u : ℕ) {o : Optional TokenId} (d : Optionally tk BaseToken.Dots c o)
    {r : ParseResult (Read NodeId)} {ns' : List ℕ} where
  pub advance-slots :
      Gives (expression words (row tk tv) u) (after c o) (nodes ns k) r ns' → {v : Read NodeId} → r ≡ Ok v →
      Sized tk tv ns c k → WithinSlots ns' v.count
  advance-slots g q z = expression-slots u g q (past-optional d refl z)

  pub advance-found :
      {p : TokenId} → o ≡ Some p → Gives (expression words (row tk tv) u) p.0 (nodes ns k) r ns' →
      {v : Read NodeId} → r ≡ Ok v → Sized tk tv ns c k → WithinSlots ns' v.count
  advance-found x g q z = expression-slots u g q (past-found d refl x z)

-- a `|:` stands in the row
pub size-inside :
    (tk : List ℕ) (c t : ℕ) → t ≡ kind_in tk c → t ≡ BaseToken.PipeForType → c < length tk
size-inside tk c t peeked e = in_row tk c t _ peeked e refl

-- where the operand of a unary begins
prefix-sized :
    {tk tv ns : List ℕ} {c k : ℕ} (t : ℕ) → t ≡ kind_in tk c → Sized tk tv ns c k →
    Sized tk tv ns (prefix_end t c) k
prefix-sized {tk} {tv} {ns} {c} {k} t peeked z = by-pipe (eqb t BaseToken.Pipe) refl
  where
    by-minus : (b : Bool) → eqb t BaseToken.Minus ≡ b → Sized tk tv ns (pick b (c + 1) c) k
    by-minus true e = past-token t _ peeked (eqb-true t _ e) refl z
    by-minus false e = z

    by-exclamation :
        (b : Bool) → eqb t BaseToken.Exclamation ≡ b →
        Sized tk tv ns (pick b (c + 1) (pick (eqb t BaseToken.Minus) (c + 1) c)) k
    by-exclamation true e = past-token t _ peeked (eqb-true t _ e) refl z
    by-exclamation false e = by-minus (eqb t BaseToken.Minus) refl

    by-pipe :
        (b : Bool) → eqb t BaseToken.Pipe ≡ b →
        Sized tk tv ns
        (pick b (c + 1) (pick (eqb t BaseToken.Exclamation) (c + 1) (pick (eqb t BaseToken.Minus) (c + 1) c))) k
    by-pipe true e = past-token t _ peeked (eqb-true t _ e) refl z
    by-pipe false e = by-exclamation (eqb t BaseToken.Exclamation) refl

-- after a primary, or a reference between pipes
pub after-primary :
    {tk tv ns : List ℕ} {c k : ℕ} (u : ℕ) (piped : Bool) {r : ParseResult (Read NodeId)} {ns' : List ℕ} →
    Gives (within (primary_or piped) u (row tk tv)) c (nodes ns k) r ns' → {v : Read NodeId} → r ≡ Ok v →
    Sized tk tv ns c k → Sized tk tv ns' v.cursor.0 v.count
unfolding within primary_or
after-primary {tk} {tv} {c = c} u piped g q z =
    (sized-after z plain-parsed
    (picks piped
    (reference-moves (below (row tk tv)) (omega arith) (expression-moves (below (row tk tv)) (omega arith) u) c)
    (primary-moves (below (row tk tv)) (omega arith) (expression-moves (below (row tk tv)) (omega arith) u) c)) g q).0

module _ {tk tv ns : List ℕ} {c k : ℕ} (t : ℕ) (peeked : t ≡ kind_in tk c) {from : TokenId}
    (w : from.0 ≡ prefix_end t c) (z : Sized tk tv ns c k) where
  pub operand-sized : Sized tk tv ns from.0 k
  operand-sized = rw w (prefix-sized t peeked z)

  module _ (u : ℕ) (piped : Bool) {r : ParseResult (Read NodeId)} {ns' : List ℕ}
      (g : Gives (within (primary_or piped) u (row tk tv)) from.0 (nodes ns k) r ns') {v : Read NodeId} (q : r ≡ Ok v)
    where
      pub past-operand : v.cursor.0 ≤ Limit.Tokens + 1
      past-operand = let y = after-primary u piped g q operand-sized in omega arith

      pub operand-slots : WithinSlots ns' v.count
      operand-slots = slots (after-primary u piped g q operand-sized)
