-- How the answers over references follow from those of the readers that they call, a law for each return.
use mathlib.Core.Path.{◌≡◌, refl, sym, ap}
use mathlib.Core.Bool.{true, false}
use mathlib.Core.List.{List}
use mathlib.Core.Option.{Option, none}
use Prim.Native.Nat.{ℕ, ◌+◌, ◌≤◌, ◌<◌}
use native.Mathlib.Omega.{arith}
use lib.ListN.{length}
use borrow.Author.Tests.{lt-ltb, le-ltb}
use Rattle.std.specs.Prelude.{Ok, Err, Some, None}
use Rattle.std.specs.Prelude.{Option as Optional}
use Rattle.codes.specs.declared.ParsingError.{ParsingError}
use Rattle.codes.specs.declared.Read.{Read}
use Rattle.codes.specs.declared.NodeId.{NodeId}
use Rattle.codes.specs.declared.TokenId.{TokenId}
use Rattle.codes.specs.Answer.{ParseResult, parsed, state, row, refusal}
use Rattle.codes.specs.Words.{As, Gives, Untyped, Quiet, nodes, Unread}
use Rattle.codes.proofs.Onto.{Onto, ◌then◌, stays, reads, regroup, at_here, answers, shows, picked}
use Rattle.codes.proofs.Onto.{Refusing, told, hands_on, came-read, came-node, Plain, plain-reading}
use Rattle.codes.proofs.Loops.{Going, sets-out, goes-round, round, round-again, round-last}
use Rattle.tokens.specs.Answer.{kind_in, consumed, consuming, Optionally}
use Rattle.tokens.proofs.Laws.{came-consumed, skipped, taken, found-next}
use Rattle.tokens.proofs.Bounds.{in_row}
use Rattle.nodes.specs.declared.ActiveList.{ActiveList}
use Rattle.nodes.specs.declared.Turn.{Turn}
use Rattle.nodes.specs.declared.Turn.TheVariants.{More}
use Rattle.nodes.specs.Answer.{ends, active, listed, append_two}
use Rattle.nodes.proofs.Laws.{active-ends, active-same, came-listed, plain-turning}
use Rattle.references.specs.declared.Address.{Address}
use Rattle.references.specs.Answer.{depths, address_of, addressed, stepped, one_more}
use Rattle.references.specs.Answer.{closing, counting, addressing, stepping, elementing, membering, deref_end}
use Rattle.rules.specs.Codes.BaseToken as BaseToken
use Rattle.rules.specs.Codes.ParseNode as ParseNode
use Rattle.rules.specs.Codes.Refusal as Refusal
use Rattle.rules.specs.Codes.Limit as Limit
use Rattle.rules.specs.Reading.{Rule, pure, repeat, loop, refuse, ◌>>=◌}
use Rattle.rules.specs.Lists.{Ends}
use Rattle.rules.specs.Words.{Words, words, append, push_list_item, push_end_of_list}
use Rattle.rules.specs.Expressions.{closed, exceeded, ampersand, ampersands, address, deref, name_alone}
use Rattle.rules.specs.Expressions.{step_end, element_end, member}

pub plain-depths : Plain depths
plain-depths = plain-reading (λ d. d) (λ a a' e. e)

pub plain-addressed : Plain addressed
plain-addressed = plain-reading address_of (λ a a' e.
    let x : a.0 ≡ a'.0 = ap (λ (x : Address). x.depth) e in
    let y : a.1 ≡ a'.1 = ap (λ (x : Address). x.name.0) e in
    rw (x, y) refl)

pub plain-stepped : Plain stepped
plain-stepped = plain-turning active active-same

-- the depth, and the depth and the name, by the answer
came-depth :
    {m : Rule Words ℕ} {c : ℕ} {s : Words} {o : ParseResult (Read ℕ)} {ks : List ℕ} → As depths m c s o ks →
    {v : Read ℕ} → o ≡ Ok v → Onto m c s (pure v.value) v.cursor.0 (nodes ks v.count)
came-depth g q = came-read g plain-depths q

pub came-address :
    {m : Rule Words (ℕ × ℕ)} {c : ℕ} {s : Words} {o : ParseResult (Read Address)} {ks : List ℕ} →
    As addressed m c s o ks → {v : Read Address} → o ≡ Ok v →
    Onto m c s (pure (v.value.depth, v.value.name.0)) v.cursor.0 (nodes ks v.count)
came-address g {v} q = came-read g plain-addressed {a = (v.value.depth, v.value.name.0)} q

-- the closing token, and the node of what it closes
module _ (key kind inside : ℕ) {tk : List ℕ} {c k : ℕ} {ns : List ℕ} {o : ParseResult TokenId}
    (g : Quiet consumed (consuming key) tk c k o) where
  pub closed-wrong :
      {e : ParsingError} → o ≡ Err e → Untyped parsed (closing key kind inside) tk c (nodes ns k) (Err e) ns
  unfolding closing closed consuming
  closed-wrong q = record { run = λ tv. hands_on _ stays (told (g.run tv ns) q) }

  pub closed-read :
      {p : TokenId} → o ≡ Ok p → {r : ParseResult (Read NodeId)} {ns' : List ℕ} →
      Gives (append kind 0) p.0 (nodes ns k) r ns' →
      Untyped parsed (closing key kind inside) tk c (nodes ns k) r ns'
  unfolding closing closed consuming
  closed-read q d = record { run = λ tv. shows (reads _ (came-consumed key g q tv ns)) d }

-- too many ampersands or steps
pub exceeds :
    {A : Type 0} (start c k : ℕ) (ns : List ℕ) {r : ParsingError} →
    r ≡ refusal Refusal.MaximumParseDepthExceeded start c c k →
    Refusing {A = A} (exceeded words start) c (nodes ns k) r ns
unfolding exceeded
exceeds start c k ns e = record {
  number = Refusal.MaximumParseDepthExceeded;
  start = start;
  end = c;
  cursor = c;
  count = k;
  is = e;
  onto = at_here _;
}

-- the nodes of a reference
module _ (start depth name steps : ℕ) {c : ℕ} {s : Words} {r₁ : ParseResult (Read NodeId)} {ks₁ : List ℕ}
    (g : Gives (append_two ParseNode.List steps ParseNode.Identifier name) c s r₁ ks₁) where
  -- its first two, and what follows them
  grouped :
      Onto (deref words start depth name steps) c s
      (append_two ParseNode.List steps ParseNode.Identifier name >>= λ _.
      append_two ParseNode.DerefAddressDepth depth ParseNode.Deref start) c s
  unfolding deref append_two
  grouped = record { same = sym (regroup _ _ _ c s).same }

  pub deref-refused : {e : ParsingError} → r₁ ≡ Err e → Gives (deref words start depth name steps) c s (Err e) ks₁
  deref-refused q = hands_on _ grouped (told g q)

  pub deref-read :
      {v : Read NodeId} → r₁ ≡ Ok v → {r : ParseResult (Read NodeId)} {ks : List ℕ} →
      Gives (append_two ParseNode.DerefAddressDepth depth ParseNode.Deref start) v.cursor.0
      (nodes ks₁ v.count) r ks →
      Gives (deref words start depth name steps) c s r ks
  deref-read q d = shows (grouped then reads _ (came-node g q)) d

-- after the end of its steps
module _ (l : Option Ends) (start depth name : ℕ) {c : ℕ} {s : Words} {r₁ : ParseResult (Read NodeId)}
    {ks₁ : List ℕ}
    (g : Gives (push_end_of_list l) c s r₁ ks₁) where
  pub end_refused : {e : ParsingError} → r₁ ≡ Err e → Gives (deref_end l start depth name) c s (Err e) ks₁
  unfolding deref_end
  end_refused q = hands_on _ stays (told g q)

  pub end_read :
      {v : Read NodeId} → r₁ ≡ Ok v → {r : ParseResult (Read NodeId)} {ks : List ℕ} →
      Gives (deref words start depth name v.value.0) v.cursor.0 (nodes ks₁ v.count) r ks →
      Gives (deref_end l start depth name) c s r ks
  unfolding deref_end
  end_read q d = shows (reads _ (came-node g q)) d

-- a name with no step
pub name-read :
    (l : ActiveList) (name : ℕ) {c : ℕ} {s : Words} {r : ParseResult (Read NodeId)} {ks : List ℕ} →
    ends l ≡ none → Gives (deref_end (ends l) name 0 name) c s r ks → Gives (name_alone words name) c s r ks
unfolding name_alone deref_end
name-read l name e g = rw e at g

-- a step becomes an item
module _ (l : ActiveList) (content : ℕ) {c : ℕ} {s : Words} {o : ParseResult (Read ActiveList)}
    {ks : List ℕ} (g : As listed (push_list_item (ends l)) c s o ks) where
  pub step-more :
      {v : Read ActiveList} → o ≡ Ok v →
      Unread stepped (stepping (ends l) content) c s
      (Ok (record { value = More v.value; cursor = v.cursor; count = v.count })) ks
  unfolding stepping step_end
  step-more {v} q = record {
    run = λ row.
        let z : As stepped (stepping (ends l) content row) c s
        (Ok (record { value = More (active (ends v.value)); cursor = v.cursor; count = v.count })) ks =
        answers (reads _ (came-listed g q)) in
        rw (active-ends v.value) at z;
  }

  pub step-full : {e : ParsingError} → o ≡ Err e → Unread stepped (stepping (ends l) content) c s (Err e) ks
  unfolding stepping step_end
  step-full q = record { run = λ row. hands_on _ stays (told g q) }

pub step-read :
    (l : ActiveList) (content : ℕ) {c : ℕ} {s : Words} (o : ParseResult (Read ActiveList))
    {ks : List ℕ} → As listed (push_list_item (ends l)) c s o ks →
    Unread stepped (stepping (ends l) content) c s (one_more o) ks
step-read l content (Ok v) g = step-more l content g refl
step-read l content (Err e) g = step-full l content g refl

-- after the expression of a step in brackets
module _ (l : ActiveList) (index : ℕ) {tk : List ℕ} {c : ℕ} {s : Words} {r₁ : ParseResult (Read NodeId)}
    {ks₁ : List ℕ}
    (g : Untyped parsed (closing BaseToken.BracketRight ParseNode.DerefStepElement index) tk c s r₁ ks₁) where
  pub element-refused : {e : ParsingError} → r₁ ≡ Err e → Untyped stepped (elementing (ends l) index) tk c s (Err e) ks₁
  unfolding elementing element_end closing
  element-refused q = record { run = λ tv. hands_on _ stays (told (g.run tv) q) }

  pub element-read :
      {v : Read NodeId} → r₁ ≡ Ok v → {r : ParseResult (Read (Turn ActiveList))} {ks : List ℕ} →
      Unread stepped (stepping (ends l) v.value.0) v.cursor.0 (nodes ks₁ v.count) r ks →
      Untyped stepped (elementing (ends l) index) tk c s r ks
  unfolding elementing element_end closing stepping
  element-read q d = record { run = λ tv. shows (reads _ (came-node (g.run tv) q)) (d.run (row tk tv)) }

  -- the same, by the list with the step
  pub element-listed :
      {v : Read NodeId} → r₁ ≡ Ok v → {o : ParseResult (Read ActiveList)} {ks : List ℕ} →
      As listed (push_list_item (ends l)) v.cursor.0 (nodes ks₁ v.count) o ks →
      Untyped stepped (elementing (ends l) index) tk c s (one_more o) ks
  element-listed {v} q {o} d = element-read q (step-read l v.value.0 o d)

-- a step `.name`
module _ (l : ActiveList) {tk : List ℕ} {c k : ℕ} {ns : List ℕ} {o : ParseResult TokenId}
    (g : Quiet consumed (consuming BaseToken.Identifier) tk c k o) where
  pub member-unnamed :
      {e : ParsingError} → o ≡ Err e → Untyped stepped (membering (ends l)) tk c (nodes ns k) (Err e) ns
  unfolding membering member consuming
  member-unnamed q = record { run = λ tv. hands_on _ (at_here _) (told (g.run tv ns) q) }

  module _ {w : TokenId} (p : o ≡ Ok w) {r₁ : ParseResult (Read NodeId)} {ks₁ : List ℕ}
      (d : Gives (append ParseNode.DerefStepMember c) w.0 (nodes ns k) r₁ ks₁) where
    pub member-refused :
        {e : ParsingError} → r₁ ≡ Err e → Untyped stepped (membering (ends l)) tk c (nodes ns k) (Err e) ks₁
    unfolding membering member consuming
    member-refused q = record {
      run = λ tv. hands_on _ (at_here _ then reads _ (came-consumed BaseToken.Identifier g p tv ns)) (told d q);
    }

    pub member-read :
        {v : Read NodeId} → r₁ ≡ Ok v → {r : ParseResult (Read (Turn ActiveList))} {ks : List ℕ} →
        Unread stepped (stepping (ends l) v.value.0) v.cursor.0 (nodes ks₁ v.count) r ks →
        Untyped stepped (membering (ends l)) tk c (nodes ns k) r ks
    unfolding membering member consuming stepping
    member-read q f = record {
      run = λ tv.
          shows (at_here _ then reads _ (came-consumed BaseToken.Identifier g p tv ns) then reads _ (came-node d q))
          (f.run (row tk tv));
    }

    -- the same, by the list with the step
    pub member-listed :
        {v : Read NodeId} → r₁ ≡ Ok v → {z : ParseResult (Read ActiveList)} {ks : List ℕ} →
        As listed (push_list_item (ends l)) v.cursor.0 (nodes ks₁ v.count) z ks →
        Untyped stepped (membering (ends l)) tk c (nodes ns k) (one_more z) ks
    member-listed {v} q {z} f = member-read q (step-read l v.value.0 z f)

-- Between two ampersands: what is left of the rule, whatever the value types and the words are.
pub record Counting (tk : List ℕ) (start c k depth at : ℕ) : Type 0 where
  pub going :
      (tv ns : List ℕ) →
      Going (ampersands words (row tk tv) start) c (nodes ns k)
      (repeat (ampersand words (row tk tv) start) (refuse Refusal.OutOfRounds 0 0)) (length tk) depth at
      (nodes ns k)

pub counting-starts : (tk : List ℕ) (start c k : ℕ) → Counting tk start c k 1 c
unfolding ampersands loop
counting-starts tk start c k = record { going = λ tv ns. sets-out _ stays }

-- a round, by the optional ampersand
module _ {tk : List ℕ} {start c k depth : ℕ} {w : TokenId} (h : Counting tk start c k depth w.0) {o : Optional TokenId}
    (g : Optionally tk BaseToken.Ampersand w.0 o) where
  pub counted : o ≡ None → Quiet depths (counting start) tk c k (Ok (depths depth (state w k)))
  unfolding counting ampersand
  counted q = record {
    run = λ tv ns. answers ((h.going tv ns).onto then round-last _ _ _ (reads _ (skipped g q tv)));
  }

  pub counted-over :
      {p : TokenId} → o ≡ Some p → Limit.AddressDepth < depth + 1 → {r : ParsingError} →
      r ≡ refusal Refusal.MaximumParseDepthExceeded start p.0 p.0 k →
      Quiet depths (counting start) tk c k (Err r)
  unfolding counting ampersand
  counted-over {p} q b e = record {
    run = λ tv ns.
        hands_on _ ((h.going tv ns).onto then
        round _ _ _ (reads _ (taken g q tv) then picked _ _ true (lt-ltb _ _ b)))
        (exceeds start p.0 k ns e);
  }

pub counts-on :
    {tk : List ℕ} {start c k depth at : ℕ} → Counting tk start c k depth at → {o : Optional TokenId} →
    Optionally tk BaseToken.Ampersand at o → {p : TokenId} → o ≡ Some p → depth + 1 ≤ Limit.AddressDepth →
    (p.0 ≤ length tk) × Counting tk start c k (depth + 1) p.0
unfolding ampersand
counts-on {tk} {at = at} h g q b =
    let (e, d) = found-next g q in
    let x : at < length tk = in_row tk at (kind_in tk at) BaseToken.Ampersand refl d refl in (
      omega arith,
      record {
        going = λ tv ns.
            goes-round _ (h.going tv ns)
            (λ m. round-again _ _ m (reads _ (taken g q tv) then picked _ _ false (le-ltb _ _ b)))
            (omega arith) (omega arith);
      },
    )

-- the name after the ampersands
module _ (start : ℕ) {tk : List ℕ} {c k : ℕ} {a : ParseResult (Read ℕ)} (g : Quiet depths (counting start) tk c k a)
  where
    pub address-refused : {e : ParsingError} → a ≡ Err e → Quiet addressed (addressing start) tk c k (Err e)
    unfolding addressing address counting
    address-refused q = record { run = λ tv ns. hands_on _ stays (told (g.run tv ns) q) }

    module _ {v : Read ℕ} (q : a ≡ Ok v) {o : ParseResult TokenId}
        (d : Quiet consumed (consuming BaseToken.Identifier) tk v.cursor.0 v.count o) where
      pub address_unnamed : {e : ParsingError} → o ≡ Err e → Quiet addressed (addressing start) tk c k (Err e)
      unfolding addressing address counting consuming
      address_unnamed w = record {
        run = λ tv ns. hands_on _ (reads _ (came-depth (g.run tv ns) q) then at_here _) (told (d.run tv ns) w);
      }

      pub address_read :
          {p : TokenId} → o ≡ Ok p →
          Quiet addressed (addressing start) tk c k
          (Ok (record { value = record { depth = v.value; name = v.cursor }; cursor = p; count = v.count }))
      unfolding addressing address counting consuming
      address_read w = record {
        run = λ tv ns.
            answers (reads _ (came-depth (g.run tv ns) q) then at_here _ then
            reads _ (came-consumed BaseToken.Identifier d w tv ns));
      }
