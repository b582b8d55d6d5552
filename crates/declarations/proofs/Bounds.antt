-- What the readers of declarations take for granted holds where they are called, and after them.
use mathlib.Core.Path.{◌≡◌, refl}
use mathlib.Core.List.{List}
use mathlib.Core.Option.{none}
use Prim.Native.Nat.{ℕ, ◌+◌, ◌≤◌}
use native.Mathlib.Omega.{arith}
use mathlib.Core.Bool.{Bool, true, false}
use lib.Dec.{eqb}
use borrow.Author.Tests.{ne_eqb}
use Rattle.std.specs.Prelude.{Ok}
use Rattle.codes.specs.declared.NodeId.{NodeId}
use Rattle.codes.specs.declared.Read.{Read}
use Rattle.codes.specs.declared.TokenId.{TokenId}
use Rattle.codes.specs.Answer.{ParseResult, row}
use Rattle.codes.specs.Words.{Gives, Quiet, Sized, nodes}
use Rattle.codes.proofs.Onto.{sized-after, plain-parsed, moved, came-node}
use Rattle.nodes.specs.declared.ActiveList.{ActiveList}
use Rattle.nodes.specs.Answer.{WithinSlots, ends, past}
use Rattle.nodes.proofs.Laws.{past-none}
use Rattle.nodes.proofs.Bounds.{slots}
use Rattle.tokens.specs.Answer.{consumed, consuming}
use Rattle.tokens.proofs.Bounds.{passed, past-consumed}
use Rattle.expressions.proofs.Bounds.{root-fits}
use Rattle.types.proofs.Bounds.{after-type}
use Rattle.declarations.specs.Answer.{named}
use Rattle.declarations.proofs.Laws.{came-named}
use Rattle.rules.specs.Codes.{pick, refusal_of}
use Rattle.rules.specs.Codes.Limit as Limit
use Rattle.rules.specs.Codes.BaseToken as BaseToken
use Rattle.rules.specs.Places.{place_of, untaken}
use Rattle.rules.specs.Words.{words}
use Rattle.rules.specs.Types.{type}
use Rattle.rules.specs.Expressions.{expression}
use Rattle.rules.specs.Declarations.{size_of_word, typed, value, member, members}
use Rattle.rules.proofs.Forward.{below}
use Rattle.rules.proofs.Forward.{Nonzero, consumes, eased, ◌then◌}
use Rattle.rules.proofs.Moves.{colon-moves, typed-moves, value-moves, member-moves, members-moves}
use Rattle.rules.proofs.Moves.{expression-moves}
use Rattle.rules.proofs.Roots.{typed-root, members-root}

-- after a token that was expected
module _ {tk : List ℕ} {c k : ℕ} (key : ℕ) {o : ParseResult TokenId} (g : Quiet consumed (consuming key) tk c k o)
    {p : TokenId} (q : o ≡ Ok p) where
  pub past-name : {tv ns : List ℕ} → Nonzero (refusal_of key) → Sized tk tv ns c k → p.0 ≤ Limit.Tokens + 1
  past-name h z = let y = past-consumed key g q h z in omega arith

-- after the name before a colon
pub name-past :
    {tk : List ℕ} {c k : ℕ} (key : ℕ) {o : ParseResult TokenId} → Quiet consumed (consuming key) tk c k o →
    {p : TokenId} → o ≡ Ok p → c ≤ Limit.Tokens → p.0 ≤ Limit.Tokens + 1
name-past key g q h = let e = (passed key g q).0 in omega arith

-- after the name and the colon before a type
module _ {tk tv ns : List ℕ} {c k : ℕ} (number : ℕ) {o : ParseResult TokenId}
    (g : Quiet consumed (named number) tk c k o) {p : TokenId} (q : o ≡ Ok p) where
  pub name-sized : 1 ≤ number → Sized tk tv ns c k → Sized tk tv ns p.0 k
  unfolding named
  name-sized h z =
      let (b, d, w) =
      moved (came-named number g q tv ns)
      (consumes (below (row tk tv)) _ refl then λ _ d e.
      eased {R = λ _ p. c ≤ p} (λ _ _ f. omega arith)
      (colon-moves (below (row tk tv)) (omega arith) number (ne_eqb number 0 (λ e. omega arith)) d)) z.used z.at in
      record { types = z.types; tokens = z.tokens; at = b; slots = z.slots; used = z.used }

-- after a name with its type, a member, members, a value
module _ {tk tv ns : List ℕ} {c k : ℕ} (u : ℕ) {r : ParseResult (Read NodeId)} {ns' : List ℕ} {v : Read NodeId}
    (q : r ≡ Ok v) (z : Sized tk tv ns c k) where
  pub typed-sized :
      (number : ℕ) → Nonzero number → Gives (typed words (row tk tv) number u) c (nodes ns k) r ns' →
      Sized tk tv ns' v.cursor.0 v.count
  typed-sized number h g =
      (sized-after z plain-parsed (typed-moves (below (row tk tv)) (omega arith) number u h c) g q).0

  -- the type's node number fits a load
  pub typed-fits :
      (number : ℕ) → Nonzero number → place_of number ≡ untaken →
      Gives (typed words (row tk tv) number u) c (nodes ns k) r ns' → v.value.0 ≤ Limit.Load
  typed-fits number h e g = root-fits (typed-root (row tk tv) u number e) g q z (typed-sized number h g)

  pub type-slots : Gives (type words (row tk tv) u) c (nodes ns k) r ns' → WithinSlots ns' v.count
  type-slots g = slots (after-type u q z g)

  pub value-slots : Gives (value words (row tk tv) u) c (nodes ns k) r ns' → WithinSlots ns' v.count
  value-slots g = slots (sized-after z plain-parsed (value-moves (below (row tk tv)) (omega arith) u c) g q).0

  members-sized :
      Gives (members words (row tk tv) u) c (nodes ns k) r ns' → Sized tk tv ns' v.cursor.0 v.count
  members-sized g = (sized-after z plain-parsed (members-moves (below (row tk tv)) (omega arith) u c) g q).0

  pub members-slots : Gives (members words (row tk tv) u) c (nodes ns k) r ns' → WithinSlots ns' v.count
  members-slots g = slots (members-sized g)

  pub members-fits : Gives (members words (row tk tv) u) c (nodes ns k) r ns' → v.value.0 ≤ Limit.Load
  members-fits g = root-fits (members-root (row tk tv) u) g q z (members-sized g)

-- after a constant's expression
pub past_value :
    {tk tv ns : List ℕ} {c k : ℕ} (u : ℕ) {o : ParseResult TokenId} →
    Quiet consumed (consuming BaseToken.Assignment) tk c k o → {p : TokenId} → o ≡ Ok p → Sized tk tv ns c k →
    {r : ParseResult (Read NodeId)} {ns' : List ℕ} →
    Gives (expression words (row tk tv) u) p.0 (nodes ns k) r ns' → {x : Read NodeId} → r ≡ Ok x →
    x.cursor.0 ≤ Limit.Tokens + 1
past_value {tk} {tv} u g {p} q z d w =
    let y =
    (sized-after (past-consumed _ g q refl z) plain-parsed
    (expression-moves (below (row tk tv)) (omega arith) u p.0) d w).0 in
    omega arith

-- after a member
module _ {tk tv ns : List ℕ} {c k : ℕ} (u : ℕ) {r : ParseResult (Read NodeId)} {ns' : List ℕ}
    (g : Gives (member words (row tk tv) u) c (nodes ns k) r ns') {v : Read NodeId} (q : r ≡ Ok v)
    (z : Sized tk tv ns c k) where
  member-sized : Sized tk tv ns' v.cursor.0 v.count
  member-sized = (sized-after z plain-parsed (member-moves (below (row tk tv)) (omega arith) u c) g q).0

  pub past-member : v.cursor.0 ≤ Limit.Tokens + 1
  past-member = let y = member-sized in omega arith

  pub member-slots : WithinSlots ns' v.count
  member-slots = slots member-sized

  pub member-kept : {m : ℕ} → m ≤ k → m ≤ v.count
  member-kept h =
      let (_, _, w) =
      moved (came-node g q) (member-moves (below (row tk tv)) (omega arith) u c) z.used z.at in
      omega (arith, w.grew)

pub none-fits : (l : ActiveList) → ends l ≡ none → (k : ℕ) → past l ≤ k
none-fits l q k = let e = past-none l q in omega arith

-- a word's size fits a load
pub size_fits : {size : ℕ} (kind : ℕ) → size ≡ size_of_word kind → size ≤ Limit.Load
size_fits kind e = rw e (
    go (eqb kind BaseToken.Word8) (eqb kind BaseToken.Word16) (eqb kind BaseToken.Word32) (eqb kind BaseToken.Word64)
    (eqb kind BaseToken.Word128))
  where
    go : (a b c d e : Bool) → pick a 1 (pick b 2 (pick c 4 (pick d 8 (pick e 16 0)))) ≤ Limit.Load
    go true b c d e = omega arith
    go false true c d e = omega arith
    go false false true d e = omega arith
    go false false false true e = omega arith
    go false false false false true = omega arith
    go false false false false false = omega arith
