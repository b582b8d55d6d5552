-- What the readers of casts take for granted holds where they are called, and after them.
use mathlib.Core.Path.{◌≡◌, refl, ap}
use mathlib.Core.Bool.{Bool, true, false}
use mathlib.Core.List.{List}
use Prim.Native.Nat.{ℕ, ◌+◌, ◌-◌, ◌≤◌, ◌<◌}
use native.Mathlib.Omega.{arith}
use lib.ListN.{length}
use Rattle.std.specs.Prelude.{Ok, Some}
use Rattle.std.specs.Prelude.{Option as Optional}
use Rattle.codes.specs.declared.NodeId.{NodeId}
use Rattle.codes.specs.declared.Read.{Read}
use Rattle.codes.specs.declared.TokenId.{TokenId}
use Rattle.codes.specs.Answer.{ParseResult, row}
use Rattle.codes.specs.Words.{Gives, Sized, nodes}
use Rattle.codes.proofs.Onto.{Onto, split, came-node, sized-after, plain-parsed}
use Rattle.nodes.specs.Answer.{WithinSlots}
use Rattle.nodes.proofs.Bounds.{slots, append-root, append-last}
use Rattle.tokens.specs.Answer.{Optionally}
use Rattle.tokens.proofs.Bounds.{optional-next, past-found}
use Rattle.types.proofs.Bounds.{after-type}
use Rattle.casts.specs.Answer.{bit_cast}
use Rattle.rules.specs.Codes.Limit as Limit
use Rattle.rules.specs.Codes.{pick}
use Rattle.rules.specs.Codes.BaseToken as BaseToken
use Rattle.rules.specs.Codes.ParseNode as ParseNode
use Rattle.rules.specs.Reading.{Outcome, ok, pure}
use Rattle.rules.specs.Words.{Words, words, append}
use Rattle.rules.specs.Types.{type}
use Rattle.rules.specs.Expressions.{type_cast}
use Rattle.rules.proofs.Forward.{below}
use Rattle.rules.proofs.Forward.{eased, appends, picks, pures}
use Rattle.rules.proofs.Moves.{type-moves, cast-moves}

module _ {tk tv ns : List ℕ} {c k : ℕ} (u : ℕ) {r : ParseResult (Read NodeId)} {ns' : List ℕ}
    (g : Gives (type words (row tk tv) u) c (nodes ns k) r ns') {v : Read NodeId} (q : r ≡ Ok v)
    (z : Sized tk tv ns c k) where
  -- after a type
  pub type-slots : WithinSlots ns' v.count
  type-slots = slots (after-type u q z g)

  pub type_at : v.cursor.0 ≤ Limit.Tokens + 1
  type_at = let y = after-type u q z g in omega arith

module _ {tk tv ns : List ℕ} {c k : ℕ} (u e : ℕ) {r : ParseResult (Read NodeId)} {ns' : List ℕ}
    (g : Gives (type_cast words (row tk tv) (type words (row tk tv) u) e) c (nodes ns k) r ns')
    {v : Read NodeId} (q : r ≡ Ok v) (z : Sized tk tv ns c k) where
  -- after a cast
  pub after-cast : Sized tk tv ns' v.cursor.0 v.count × (c < v.cursor.0)
  after-cast =
      sized-after z plain-parsed
      (cast-moves (below (row tk tv)) (omega arith) (type-moves (below (row tk tv)) (omega arith) u) e c) g q

  -- its node's number fits a load
  pub cast-root : v.value.0 ≤ Limit.Load
  unfolding type_cast
  cast-root =
      let y = after-cast.0 in
      let one = split (came-node g q) in
      let two = split one.two in
      let three = split two.two in
      let d = append-last _ _ three.two in
      omega arith

-- after an `as` and its cast
module _
    {tk tv ns : List ℕ} {c k : ℕ} (u e : ℕ) {o : Optional TokenId} (d : Optionally tk BaseToken.As c o)
    {p : TokenId} (x : o ≡ Some p) {r : ParseResult (Read NodeId)} {ns' : List ℕ}
    (g : Gives (type_cast words (row tk tv) (type words (row tk tv) u) e) p.0 (nodes ns k) r ns')
    {v : Read NodeId} (q : r ≡ Ok v) (z : Sized tk tv ns c k) where
  pub after-as : Sized tk tv ns' v.cursor.0 v.count
  after-as = (after-cast u e g q (past-found d refl x z)).0

  pub as-moves : c < v.cursor.0
  as-moves =
      let b = (after-cast u e g q (past-found d refl x z)).1 in
      let (w, y) = optional-next d refl x in
      omega arith

  pub as-root : v.value.0 ≤ Limit.Load
  as-root = cast-root u e g q (past-found d refl x z)

  -- fewer tokens are left
  pub as-less : length tk - v.cursor.0 < length tk - c
  as-less = let y = after-as in let b = as-moves in omega arith

-- after the node of a `cast`
module _
    {tk tv ns : List ℕ} {c k : ℕ} (cast : Bool) (at e : ℕ) {r : ParseResult (Read NodeId)} {ns' : List ℕ}
    (g : Gives (bit_cast cast at e) c (nodes ns k) r ns') {v : Read NodeId} (q : r ≡ Ok v)
    (z : Sized tk tv ns c k) where
  pub after-bit-cast : Sized tk tv ns' v.cursor.0 v.count
  unfolding bit_cast
  after-bit-cast =
      (sized-after z plain-parsed
      (picks cast (eased (λ _ _ q. omega arith) (appends _ _)) (pures {R = λ _ p. c ≤ p} (omega arith))) g q).0

  pub bit-cast-root : e ≤ Limit.Load → v.value.0 ≤ Limit.Load
  unfolding bit_cast
  bit-cast-root h = go cast (came-node g q)
    where
      go :
          (b : Bool) →
          Onto (pick b (append ParseNode.BitCast at) (pure e)) c (nodes ns k) (pure v.value.0) v.cursor.0
          (nodes ns' v.count) → v.value.0 ≤ Limit.Load
      go true d = let y = append-root _ _ d in omega arith
      go false d =
          let x : ok e ≡ ok v.value.0 = ap (λ (o : Outcome Words ℕ). o.result) d.same in
          let y : e ≡ v.value.0 = cc in
          omega arith
