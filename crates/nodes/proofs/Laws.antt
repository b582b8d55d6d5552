-- How the answers over lists follow from those of an append.
use mathlib.Core.Path.{◌≡◌, refl, sym, ◌∙◌, ap}
use mathlib.Core.Bool.{Bool, true, false}
use mathlib.Core.List.{List}
use mathlib.Core.Option.{Option, some, none}
use Prim.Native.Nat.{ℕ, ◌+◌, ◌≤◌, ◌<◌}
use native.Mathlib.Omega.{arith}
use lib.ListN.{length, set}
use lib.Dec.{ltb}
use borrow.Author.Tests.{lt-ltb, le-ltb}
use Rattle.std.specs.Prelude.{Ok, Err}
use Rattle.codes.specs.declared.ParsingError.{ParsingError}
use Rattle.codes.specs.declared.Read.{Read}
use Rattle.codes.specs.declared.NodeId.{NodeId}
use Rattle.codes.specs.Answer.{ParseResult, parsed, state, token, refusal}
use Rattle.codes.specs.Words.{As, Gives, nodes}
use Rattle.codes.proofs.Onto.{Onto, stays, reads, answers, declines, shows, told, hands_on, came-read, Plain, plain-reading, came-node}
use Rattle.nodes.specs.declared.ActiveList.{ActiveList}
use Rattle.nodes.specs.declared.ActiveList.TheVariants.{Empty, Open}
use Rattle.nodes.specs.declared.Turn.{Turn}
use Rattle.nodes.specs.declared.Turn.TheVariants.{More, Last}
use Rattle.nodes.specs.Answer.{ends, active, listed, turn_of, turning, past, append_two}
use Rattle.rules.specs.Codes.ParseNode as ParseNode
use Rattle.rules.specs.Codes.Refusal as Refusal
use Rattle.rules.specs.Reading.{Rule, Step, again, done, pure, ◌>>=◌}
use Rattle.rules.specs.Lists.{Ends, extended, ended}
use Rattle.rules.specs.Lists as Lists
use Rattle.rules.specs.Words.{Words, packed, append, patch, push_list_item, push_end_of_list}

-- a word is stored
pub stored : (ws : List ℕ) (n : ℕ) {w x : ℕ} → w ≡ x → set ws n w ≡ set ws n x
stored ws n e = rw e refl

-- an append, by whether there is a slot
module _ (k l c : ℕ) (ks : List ℕ) (n : ℕ) where
  pub appended :
      n < length ks →
      {w : ℕ} → w ≡ packed k l → Gives (append k l) c (nodes ks n) (Ok (parsed n (state (token c) (n + 1)))) (set ks n w)
  unfolding append
  appended h e = answers (record { same = rw (lt-ltb _ _ h, e) refl })

  pub full : length ks ≤ n → Gives (append k l) c (nodes ks n) (Err (refusal Refusal.NoSlot c c c n)) ks
  unfolding append
  full h = declines (record { same = rw (le-ltb _ _ h) refl })

-- an append, and what then reads its node and does nothing more
pub append-only :
    (kind load : ℕ) {c : ℕ} {s : Words} (f : ℕ → Rule Words ℕ) → ((n : ℕ) (t : Words) → Onto (f n) c t (pure n) c t) →
    Onto (append kind load >>= f) c s (append kind load) c s
unfolding append ◌>>=◌
append-only kind load {c} {s} f h = go (ltb s.count (length s.words)) refl
  where
    go :
        (b : Bool) → ltb s.count (length s.words) ≡ b →
        Onto (append kind load >>= f) c s (append kind load) c s
    go true e = record { same = rw e (h _ _).same }
    go false e = record { same = rw e refl }

-- two nodes
module _ (kind load kind' load' : ℕ) {c : ℕ} {s : Words} {r₁ : ParseResult (Read NodeId)} {ks₁ : List ℕ}
    (g : Gives (append kind load) c s r₁ ks₁) where
  pub two-refused :
      {e : ParsingError} → r₁ ≡ Err e →
      Gives (append_two kind load kind' load') c s (Err e) ks₁
  unfolding append_two
  two-refused q = hands_on _ stays (told g q)

  pub two-read :
      {v : Read NodeId} → r₁ ≡ Ok v → {r : ParseResult (Read NodeId)} {ks : List ℕ} →
      Gives (append kind' load') v.cursor.0 (nodes ks₁ v.count) r ks →
      Gives (append_two kind load kind' load') c s r ks
  unfolding append_two
  two-read q d = shows (reads _ (came-node g q)) d

-- an open list is told by its ends
pub ends-active : (l : Option Ends) → ends (active l) ≡ l
ends-active none = refl
ends-active (some e) = refl

pub active-ends : (l : ActiveList) → active (ends l) ≡ l
active-ends Empty = refl
active-ends (Open f l) = refl

pub active-same : (a a' : Option Ends) → active a ≡ active a' → a ≡ a'
active-same a a' e = sym (ends-active a) ∙ ap ends e ∙ ends-active a'

pub plain-listed : Plain listed
plain-listed = plain-reading active active-same

-- a turn is told by what the code has of it, if what it holds is
module _ {A T : Type 0} (f : A → T) where
  turn-same : ((a a' : A) → f a ≡ f a' → a ≡ a') → (t t' : Step A A) → turn_of f t ≡ turn_of f t' → t ≡ t'
  turn-same same (again a) (again a') e =
      let x : f a ≡ f a' = cc in
      ap again (same a a' x)
  turn-same same (done a) (done a') e =
      let x : f a ≡ f a' = cc in
      ap done (same a a' x)
  turn-same same (again a) (done a') e = absurd cc
  turn-same same (done a) (again a') e = absurd cc

  pub plain-turning : ((a a' : A) → f a ≡ f a' → a ≡ a') → Plain (turning f)
  plain-turning same = plain-reading (turn_of f) (turn-same same)

  -- a turn of the code is that of the rules
  module _ {z : ParseResult (Read (Turn T))} {v : Read (Turn T)} (w : z ≡ Ok v) {a : A} {m : T} (back : f a ≡ m) where
    pub more-turn : v.value ≡ More m → z ≡ Ok (turning f (again a) (state v.cursor v.count))
    more-turn e =
        w ∙ ap (λ (t : Turn T). Ok (record { value = t; cursor = v.cursor; count = v.count })) (e ∙ ap More (sym back))

    pub last-turn : v.value ≡ Last m → z ≡ Ok (turning f (done a) (state v.cursor v.count))
    last-turn e =
        w ∙ ap (λ (t : Turn T). Ok (record { value = t; cursor = v.cursor; count = v.count })) (e ∙ ap Last (sym back))

-- the list with one item more, by the answer
pub listed-back :
    {v : Read ActiveList} → ◌≡◌ {A = ParseResult (Read ActiveList)} (Ok v)
    (Ok (listed (ends v.value) (state v.cursor v.count)))
listed-back {v} = ap (λ l. Ok (record { value = l; cursor = v.cursor; count = v.count })) (sym (active-ends v.value))

pub came-listed :
    {m : Rule Words (Option Ends)} {c : ℕ} {s : Words} {o : ParseResult (Read ActiveList)} {ks : List ℕ} →
    As listed m c s o ks → {v : Read ActiveList} → o ≡ Ok v →
    Onto m c s (pure (ends v.value)) v.cursor.0 (nodes ks v.count)
came-listed g {v} q = came-read g plain-listed {a = ends v.value} (q ∙ listed-back)

-- the place after the items
pub past_first : {l : ActiveList} {f e : NodeId} → l ≡ Open f e → f.0 < past l
unfolding past
past_first q = rw q (omega arith)

pub past-last : {l : ActiveList} {f e : NodeId} → l ≡ Open f e → e.0 < past l
unfolding past
past-last q = rw q (omega arith)

pub past-none : (l : ActiveList) → ends l ≡ none → past l ≡ 0
unfolding past
past-none Empty q = refl
past-none (Open f l) q = absurd cc

-- what a patch leaves
abbrev pub Patched : List ℕ → ℕ → ℕ → List ℕ → Type 0
Patched ws item next ws' = ws' ≡ set ws item (packed ParseNode.ListItem next)

module _ (l : ActiveList) {c k : ℕ} {ks : List ℕ} {r₁ : ParseResult (Read NodeId)} {ks₁ : List ℕ} where
  module _ (g : Gives (append ParseNode.UnpatchedListItem 0) c (nodes ks k) r₁ ks₁) where
    pub item_refused :
        {e : ParsingError} → r₁ ≡ Err e →
        As listed (push_list_item (ends l)) c (nodes ks k) (Err e) ks₁
    unfolding Lists.push_list_item
    item_refused q = hands_on _ stays (told g q)

    pub item-first :
        {v : Read NodeId} → r₁ ≡ Ok v → l ≡ Empty →
        As listed (push_list_item (ends l)) c (nodes ks k) (Ok (record { value = Open v.value v.value; cursor = v.cursor; count = v.count })) ks₁
    unfolding Lists.push_list_item extended
    item-first q e = rw e (answers (reads _ (came-node g q)))

    pub item-more :
        {v : Read NodeId} → r₁ ≡ Ok v → {f e : NodeId} → l ≡ Open f e → {ks' : List ℕ} →
        Patched ks₁ e.0 v.value.0 ks' →
        As listed (push_list_item (ends l)) c (nodes ks k) (Ok (record { value = Open f v.value; cursor = v.cursor; count = v.count })) ks'
    unfolding Lists.push_list_item extended patch ◌>>=◌
    item-more q is w =
        rw is (shows (reads _ (came-node g q)) (record { reply = refl; words = w }))

  module _ (g : Gives (append ParseNode.NoMoreItems 0) c (nodes ks k) r₁ ks₁) where
    pub end_refused :
        {e : ParsingError} → r₁ ≡ Err e →
        Gives (push_end_of_list (ends l)) c (nodes ks k) (Err e) ks₁
    unfolding Lists.push_end_of_list
    end_refused q = hands_on _ stays (told g q)

    pub end_empty :
        {v : Read NodeId} → r₁ ≡ Ok v → l ≡ Empty →
        Gives (push_end_of_list (ends l)) c (nodes ks k) (Ok v) ks₁
    unfolding Lists.push_end_of_list ended
    end_empty q e = rw e (answers (reads _ (came-node g q)))

    pub end-patched :
        {v : Read NodeId} → r₁ ≡ Ok v → {f e : NodeId} → l ≡ Open f e → {ks' : List ℕ} →
        Patched ks₁ e.0 v.value.0 ks' →
        Gives (push_end_of_list (ends l)) c (nodes ks k) (Ok (record { value = f; cursor = v.cursor; count = v.count })) ks'
    unfolding Lists.push_end_of_list ended patch ◌>>=◌
    end-patched q is w =
        rw is (shows (reads _ (came-node g q)) (record { reply = refl; words = w }))
