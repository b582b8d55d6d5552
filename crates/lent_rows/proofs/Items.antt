-- How the answers over a list follow from those of crate nodes, and of the lent record.
use mathlib.Core.Path.{◌≡◌, refl, sym, ◌∙◌, ap, subst}
use mathlib.Core.List.{List}
use mathlib.Core.Option.{none}
use Prim.Native.Nat.{ℕ, suc, ◌+◌, ◌-◌, ◌≤◌, ◌<◌}
use native.Mathlib.Numerals.{unary_clauses}
use native.Mathlib.Omega.{arith}
use Rattle.std.specs.Option.{unwrap_or}
use Rattle.std.specs.Prelude.{Ok, Err, Some, None}
use Rattle.std.specs.Prelude.{Option as Optional}
use Rattle.rules.specs.Codes.ParseNode as ParseNode
use Rattle.rules.specs.Words.{append, push_list_item, push_end_of_list}
use Rattle.codes.specs.declared.NodeId.{NodeId}
use Rattle.codes.specs.declared.ParsingError.{ParsingError}
use Rattle.codes.specs.declared.Read.{Read}
use Rattle.codes.specs.declared.TokenId.{TokenId}
use Rattle.codes.specs.Answer.{ParseResult}
use Rattle.codes.specs.Words.{As, Gives, nodes}
use Rattle.codes.proofs.Onto.{Onto, stays, ◌then◌, reads, shows, told, hands_on, came-node}
use Rattle.nodes.specs.declared.ActiveList.{ActiveList}
use Rattle.nodes.specs.Answer.{WithinSlots, ends, listed, past}
use Rattle.nodes.proofs.Laws.{active-ends, came-listed, past-none}
use Rattle.nodes.proofs.Bounds.{after_push, after-item, item-fits}
use Rattle.tokens.specs.Answer.{after as after_token}
use Rattle.buffer.specs.declared.ParseBuffer.{ParseBuffer}
use Rattle.buffer.specs.Answer.{counted, relisted, Appends, AppendsItem}
use Rattle.lent_rows.specs.Lists.{item, items, seen, Fits, Item}

-- a list with the cursor and the count
abbrev pub Listed : Type 0
Listed = Read ActiveList

-- an item by the core: its content was refused, or read
module _ (token : ℕ) (l : Listed) {ws : List ℕ} {r₁ : ParseResult (Read NodeId)} {ws₁ : List ℕ}
    (g : Gives (append ParseNode.UntypedIntegerLiteral token) l.cursor.0 (nodes ws l.count) r₁ ws₁) where
  pub content-refused : {e : ParsingError} → r₁ ≡ Err e → Item token l ws (Err e) ws₁
  unfolding item
  content-refused q = record { answer = hands_on _ stays (told g q); fits = λ e. absurd cc }

  module _ {v : Read NodeId} (q : r₁ ≡ Ok v) (z : Fits l ws) where
    after : WithinSlots ws₁ v.count × (l.count ≤ v.count) × (v.cursor.0 ≡ l.cursor.0)
    after = after_push ParseNode.UntypedIntegerLiteral token g q z.slots

    pub core-slots : WithinSlots ws₁ v.count
    core-slots = after.0

    pub core-last : past l.value ≤ v.count
    core-last = omega (arith, after.1, z.last)

    pub content-read :
        {r : ParseResult Listed} {ws₂ : List ℕ} →
        As listed (push_list_item (ends l.value)) v.cursor.0 (nodes ws₁ v.count) r ws₂ →
        Item token l ws r ws₂
    unfolding item
    content-read h = record {
      answer = shows (reads _ (came-node g q)) h;
      fits = λ {v = w} e. record {
        slots = (after-item (ends l.value) h e core-slots).0;
        last =
            let before =
            subst (λ (m : ActiveList). past m ≤ v.count) (sym (active-ends l.value)) core-last in
            subst (λ (m : ActiveList). past m ≤ w.count) (active-ends w.value)
            (item-fits (ends l.value) (came-listed h e) before).0;
      };
    }

-- an item by the lent record: its answer leaves the record with what it read
module _ (token : ℕ) {c : TokenId} {b : ParseBuffer} {ws : List ℕ} {r₁ : ParseResult (Read NodeId)} {b₁ : ParseBuffer}
    {ws₁ : List ℕ} (g : Appends c.0 b ws ParseNode.UntypedIntegerLiteral token r₁ b₁ ws₁) where
  abbrev l : Listed
  l = record { cursor = c; count = b.count; value = b.list }

  pub record-refused : {e : ParsingError} → r₁ ≡ Err e → Item token l ws (Err e) ws₁
  record-refused q = content-refused token l g.node q

  module _ {v : Read NodeId} (q : r₁ ≡ Ok v) (z : Fits l ws) where
    counts : b₁ ≡ record { count = v.count; list = b.list }
    counts = g.buffer ∙ ap (counted b) q

    pub record-fits : WithinSlots ws₁ b₁.count × (past b₁.list ≤ b₁.count)
    record-fits =
        subst (λ (x : ParseBuffer). WithinSlots ws₁ x.count × (past x.list ≤ x.count)) (sym counts)
        (core-slots token l g.node q z, core-last token l g.node q z)

    module _ {r : ParseResult Listed} {b₂ : ParseBuffer} {ws₂ : List ℕ} (h : AppendsItem v.cursor.0 b₁ ws₁ r b₂
        ws₂)
      where
        pub record-read : Item token l ws r ws₂
        record-read =
            content-read token l g.node q z
            (subst (λ (y : ParseBuffer). As listed (push_list_item (ends y.list)) v.cursor.0
            (nodes ws₁ y.count) r ws₂)
            counts h.item)

        -- the record then, as such a list
        pub record-kept :
            {w : Listed} → r ≡ Ok w → Item token l ws (Ok (record {
              cursor = w.cursor;
              count = b₂.count;
              value = b₂.list;
            })) ws₂
        record-kept {w} e =
            let same : b₂ ≡ record { count = w.count; list = w.value } = h.buffer ∙ ap (relisted b₁) e in
            rw same (rw e at record-read)

-- an answer of the core is seen as it is
pub seen-same : (r : ParseResult Listed) → seen (λ l. l) r ≡ r
seen-same (Ok l) = refl
seen-same (Err e) = refl

-- The items of the list l₀ from a token on go on as those of the list l from token k up to e.
pub record Going (left token : ℕ) (l₀ : Listed) (ws₀ : List ℕ) (e k : ℕ) (l : Listed) (ws : List ℕ) : Type 0 where
  pub onto :
      Onto (items left token (ends l₀.value)) l₀.cursor.0 (nodes ws₀ l₀.count)
      (items (e - k) k (ends l.value)) l.cursor.0 (nodes ws l.count)
  pub fits : Fits l ws

pub begins : (left token : ℕ) (l : Listed) {ws : List ℕ} → Fits l ws → Going left token l ws (token + left) token l ws
begins left token l {ws} z =
    let e : left ≡ token + left - token = omega arith in
    record {
      onto = subst (λ (n : ℕ). Onto (items left token (ends l.value)) l.cursor.0 (nodes ws l.count)
          (items n token (ends l.value)) l.cursor.0 (nodes ws l.count)) e stays;
      fits = z;
    }

module _ {left token : ℕ} {l₀ : Listed} {ws₀ : List ℕ} {e k : ℕ} {l : Listed} {ws : List ℕ}
    (g : Going left token l₀ ws₀ e k l ws) where
  -- one more
  one_more : k < e →
      Onto (items left token (ends l₀.value)) l₀.cursor.0 (nodes ws₀ l₀.count)
      (items (suc (e - (k + 1))) k (ends l.value)) l.cursor.0 (nodes ws l.count)
  one_more h = let q : e - k ≡ suc (e - (k + 1)) = simp unary_clauses (omega arith) in rw q at g.onto

  module _ (h : k < e) {r : ParseResult Listed} {ws' : List ℕ} (i : Item k l ws r ws') where
    pub goes_on : {l' : Listed} → r ≡ Ok l' → Going left token l₀ ws₀ e (k + 1) l' ws'
    unfolding items
    goes_on q = record { onto = one_more h then reads _ (came-listed i.answer q); fits = i.fits q }

    pub breaks_off : {d : ParsingError} → r ≡ Err d →
        Gives (items left token (ends l₀.value)) l₀.cursor.0 (nodes ws₀ l₀.count) (Err d) ws'
    unfolding items
    breaks_off q = shows (one_more h) (hands_on _ stays (told i.answer q))

  pub comes_to_end : e ≤ k → {r : ParseResult (Read NodeId)} {ws' : List ℕ} →
      Gives (push_end_of_list (ends l.value)) l.cursor.0 (nodes ws l.count) r ws' →
      Gives (items left token (ends l₀.value)) l₀.cursor.0 (nodes ws₀ l₀.count) r ws'
  unfolding items
  comes_to_end h d = let q : e - k ≡ 0 = omega arith in shows (rw q at g.onto) d

-- a list that has no item yet
pub none-fits : {l : ActiveList} {ws : List ℕ} {c : TokenId} → WithinSlots ws 0 → ends l ≡ none →
    Fits (record { cursor = c; count = 0; value = l }) ws
none-fits {l} z e = record { slots = z; last = rw (past-none l e) (omega arith) }

-- the cursor after a token that may stand there, as the code has it
pub next_is : (o : Optional TokenId) (c : TokenId) → (unwrap_or o c).0 ≡ after_token c.0 o
next_is None c = refl
next_is (Some p) c = refl
