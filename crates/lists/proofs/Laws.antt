-- How the answers over lists follow from those of the readers that they call, a law for each return.
use mathlib.Core.Path.{◌≡◌, refl, sym, ap}
use mathlib.Core.List.{List}
use mathlib.Core.Option.{Option}
use Prim.Native.Nat.{ℕ, ◌+◌}
use Rattle.std.specs.Prelude.{Ok, Err, Some, None}
use Rattle.std.specs.Prelude.{Option as Optional}
use Rattle.codes.specs.declared.ParsingError.{ParsingError}
use Rattle.codes.specs.declared.Read.{Read}
use Rattle.codes.specs.declared.NodeId.{NodeId}
use Rattle.codes.specs.declared.TokenId.{TokenId}
use Rattle.codes.specs.Answer.{ParseResult, row}
use Rattle.codes.specs.Words.{As, Gives, Untyped, Quiet, nodes}
use Rattle.codes.proofs.Onto.{Onto, ◌then◌, stays, reads, regroup, answers, shows}
use Rattle.codes.proofs.Onto.{told, hands_on, came-node, Plain}
use Rattle.tokens.specs.Answer.{consumed, consuming, Optionally}
use Rattle.tokens.proofs.Laws.{came-consumed, skipped, taken}
use Rattle.nodes.specs.declared.ActiveList.{ActiveList}
use Rattle.nodes.specs.declared.Turn.{Turn}
use Rattle.nodes.specs.declared.Turn.TheVariants.{More, Last}
use Rattle.nodes.specs.Answer.{ends, active, listed, append_two}
use Rattle.nodes.proofs.Laws.{active-ends, active-same, came-listed, plain-turning}
use Rattle.lists.specs.declared.CountedList.{CountedList}
use Rattle.lists.specs.declared.Owner.{Owner as Code}
use Rattle.lists.specs.declared.Owner.TheVariants.{Call, Elements}
use Rattle.lists.specs.Answer.{owner_of, Counted, counted, counted_list, turned}
use Rattle.lists.specs.Answer.{closing_with, separating, ending, field_end, shorthand_end, linking}
use Rattle.rules.specs.Codes.BaseToken as BaseToken
use Rattle.rules.specs.Codes.ParseNode as ParseNode
use Rattle.rules.specs.Reading.{◌>>=◌}
use Rattle.rules.specs.Lists.{Ends}
use Rattle.rules.specs.Words.{Words, words, append, push_list_item, push_end_of_list}
use Rattle.rules.specs.Expressions.{Owner, structural, separator, item_end, name_alone, owned, list_end}

-- a list of the code is that of the rules, and the other way round
pub counted-back : (l : CountedList) → counted_list (counted l) ≡ l
counted-back l = ap (λ (x : ActiveList). record { list = x; items = l.items }) (active-ends l.list)

list-same : (l l' : Counted) → counted_list l ≡ counted_list l' → l ≡ l'
list-same l l' e =
    let x : active l.0 ≡ active l'.0 = ap (λ (m : CountedList). m.list) e in
    let y : l.1 ≡ l'.1 = ap (λ (m : CountedList). m.items) e in
    let z : l.0 ≡ l'.0 = active-same l.0 l'.0 x in
    rw (z, y) refl

pub plain-turned : Plain turned
plain-turned = plain-turning counted_list list-same

-- the closing token
module _ (closing : ℕ) (l : CountedList) {tk : List ℕ} {c k : ℕ} {o : ParseResult TokenId}
    (g : Quiet consumed (consuming closing) tk c k o) where
  pub list-closed :
      {p : TokenId} → o ≡ Ok p →
      Quiet turned (closing_with closing (counted l)) tk c k (Ok (record { value = Last l; cursor = p; count = k }))
  unfolding closing_with consuming
  list-closed {p} q = record {
    run = λ tv ns.
        let z : As turned (closing_with closing (counted l) (row tk tv)) c (nodes ns k)
        (Ok (record { value = Last (counted_list (counted l)); cursor = p; count = k })) ns =
        answers (reads _ (came-consumed closing g q tv ns)) in
        rw (counted-back l) at z;
  }

  pub list_open : {e : ParsingError} → o ≡ Err e → Quiet turned (closing_with closing (counted l)) tk c k (Err e)
  unfolding closing_with consuming
  list_open q = record { run = λ tv ns. hands_on _ stays (told (g.run tv ns) q) }

-- after an item: a comma, or the closing token
module _ (closing : ℕ) (l : CountedList) {tk : List ℕ} {c k : ℕ} {o : Optional TokenId}
    (g : Optionally tk BaseToken.Comma c o) where
  pub comma-read :
      {p : TokenId} → o ≡ Some p →
      Quiet turned (separating closing (counted l)) tk c k (Ok (record { value = More l; cursor = p; count = k }))
  unfolding separating separator
  comma-read {p} q = record {
    run = λ tv ns.
        let z : As turned (separating closing (counted l) (row tk tv)) c (nodes ns k)
        (Ok (record { value = More (counted_list (counted l)); cursor = p; count = k })) ns =
        answers (reads _ (taken g q tv)) in
        rw (counted-back l) at z;
  }

  pub no-comma :
      o ≡ None → {r : ParseResult (Read (Turn CountedList))} → Quiet turned (closing_with closing (counted l)) tk c k r →
      Quiet turned (separating closing (counted l)) tk c k r
  unfolding separating separator closing_with
  no-comma q d = record { run = λ tv ns. shows (reads _ (skipped g q tv)) (d.run tv ns) }

  -- by a kind of the closing token
  pub no-comma-by :
      o ≡ None → {key : ℕ} → closing ≡ key → {r : ParseResult (Read (Turn CountedList))} →
      Quiet turned (closing_with key (counted l)) tk c k r → Quiet turned (separating closing (counted l)) tk c k r
  no-comma-by q e d = no-comma q (rw e d)

-- an item
module _ (closing : ℕ) (l : CountedList) (content : ℕ) (tk : List ℕ) {c : ℕ} {s : Words}
    {o : ParseResult (Read ActiveList)} {ks : List ℕ} (g : As listed (push_list_item (ends l.list)) c s o ks)
  where
    pub item-full :
        {e : ParsingError} → o ≡ Err e → Untyped turned (ending closing (counted l) content) tk c s (Err e) ks
    unfolding ending item_end
    item-full q = record { run = λ tv. hands_on _ stays (told g q) }

    pub item-read :
        {v : Read ActiveList} → o ≡ Ok v → {r : ParseResult (Read (Turn CountedList))} →
        Quiet turned (separating closing (ends v.value, l.items + 1)) tk v.cursor.0 v.count r →
        Untyped turned (ending closing (counted l) content) tk c s r ks
    unfolding ending item_end separating
    item-read q d = record { run = λ tv. shows (reads _ (came-listed g q)) (d.run tv ks) }

-- a field
module _ (l : Counted) (name e : ℕ) (tk : List ℕ) {c : ℕ} {s : Words} {r₁ : ParseResult (Read NodeId)} {ks₁ : List ℕ}
    (g : Gives (append ParseNode.IdentifierAndExpression name) c s r₁ ks₁) where
  pub field-refused : {x : ParsingError} → r₁ ≡ Err x → Untyped turned (field_end l name e) tk c s (Err x) ks₁
  unfolding field_end
  field-refused q = record { run = λ tv. hands_on _ stays (told g q) }

  pub field-read :
      {v : Read NodeId} → r₁ ≡ Ok v → {r : ParseResult (Read (Turn CountedList))} {ks : List ℕ} →
      Untyped turned (ending BaseToken.BraceRight l v.value.0) tk v.cursor.0 (nodes ks₁ v.count) r ks →
      Untyped turned (field_end l name e) tk c s r ks
  unfolding field_end ending
  field-read q d = record { run = λ tv. shows (reads _ (came-node g q)) (d.run tv) }

-- a field without colon
module _ (l : Counted) (name : ℕ) (tk : List ℕ) {c : ℕ} {s : Words} {r₁ : ParseResult (Read NodeId)} {ks₁ : List ℕ}
    (g : Gives (name_alone words name) c s r₁ ks₁) where
  pub shorthand-refused : {x : ParsingError} → r₁ ≡ Err x → Untyped turned (shorthand_end l name) tk c s (Err x) ks₁
  unfolding shorthand_end
  shorthand-refused q = record { run = λ tv. hands_on _ stays (told g q) }

  pub shorthand-read :
      {v : Read NodeId} → r₁ ≡ Ok v → {r : ParseResult (Read (Turn CountedList))} {ks : List ℕ} →
      Untyped turned (field_end l name v.value.0) tk v.cursor.0 (nodes ks₁ v.count) r ks →
      Untyped turned (shorthand_end l name) tk c s r ks
  unfolding shorthand_end
  shorthand-read q d = record { run = λ tv. shows (reads _ (came-node g q)) (d.run tv) }

-- the nodes of what a list belongs to
module _ {o : Code} (items list : ℕ) {c : ℕ} {s : Words} {r : ParseResult (Read NodeId)} {ks : List ℕ} where
  pub call-read :
      {name : TokenId} {builtin : ℕ} → o ≡ Call name builtin →
      Gives (append_two ParseNode.Identifier name.0 ParseNode.FunctionCall builtin) c s r ks →
      Gives (owned words (owner_of o) items list) c s r ks
  unfolding owned append_two
  call-read e g = rw e g

  pub elements-read :
      o ≡ Elements → Gives (append ParseNode.ArrayLiteral items) c s r ks →
      Gives (owned words (owner_of o) items list) c s r ks
  unfolding owned
  elements-read e g = rw e g

-- the end of a list, and the link to it
module _ (l : Option Ends) {c : ℕ} {s : Words} {r₁ : ParseResult (Read NodeId)} {ks₁ : List ℕ}
    (g : Gives (push_end_of_list l) c s r₁ ks₁) where
  pub end_refused : {x : ParsingError} → r₁ ≡ Err x → Gives (linking l) c s (Err x) ks₁
  unfolding linking
  end_refused q = hands_on _ stays (told g q)

  pub link-read :
      {v : Read NodeId} → r₁ ≡ Ok v → {r : ParseResult (Read NodeId)} {ks : List ℕ} →
      Gives (append ParseNode.List v.value.0) v.cursor.0 (nodes ks₁ v.count) r ks →
      Gives (linking l) c s r ks
  unfolding linking
  link-read q d = shows (reads _ (came-node g q)) d

-- the end of a list, with what it belongs to
module _ (o : Owner) (l : Option Ends) (i : ℕ) {c : ℕ} {s : Words} {r₁ : ParseResult (Read NodeId)} {ks₁ : List ℕ}
    (g : Gives (linking l) c s r₁ ks₁) where
  linked : Onto (list_end words o (l, i)) c s (linking l >>= λ n. owned words o i n) c s
  unfolding list_end linking
  linked = record {
    same = sym (regroup (push_end_of_list l) (λ t. append ParseNode.List t) (λ n. owned words o i n) c s).same;
  }

  pub list-refused : {x : ParsingError} → r₁ ≡ Err x → Gives (list_end words o (l, i)) c s (Err x) ks₁
  list-refused q = hands_on _ linked (told g q)

  pub list_read :
      {v : Read NodeId} → r₁ ≡ Ok v → {r : ParseResult (Read NodeId)} {ks : List ℕ} →
      Gives (owned words o i v.value.0) v.cursor.0 (nodes ks₁ v.count) r ks →
      Gives (list_end words o (l, i)) c s r ks
  list_read q d = shows (linked then reads _ (came-node g q)) d

pub fields_read :
    (name : ℕ) (l : Option Ends) (i : ℕ) {c : ℕ} {s : Words} {r₁ : ParseResult (Read NodeId)} {ks₁ : List ℕ} →
    Gives (linking l) c s r₁ ks₁ → {v : Read NodeId} → r₁ ≡ Ok v → {r : ParseResult (Read NodeId)} {ks : List ℕ} →
    Gives (append ParseNode.Structural name) v.cursor.0 (nodes ks₁ v.count) r ks →
    Gives (list_end words (structural name) (l, i)) c s r ks
unfolding owned
fields_read name l i g q d = list_read (structural name) l i g q d
