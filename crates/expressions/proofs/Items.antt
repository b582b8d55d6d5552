-- The items of a list: what their loop keeps between two rounds, and a law for each return.
use mathlib.Core.Path.{◌≡◌, refl, ap}
use mathlib.Core.Bool.{Bool, true, false}
use mathlib.Core.List.{List}
use mathlib.Core.Option.{none}
use Prim.Native.Nat.{ℕ, ◌+◌, ◌-◌, ◌≤◌, ◌<◌}
use native.Mathlib.Omega.{arith}
use lib.ListN.{length}
use lib.Dec.{eqb}
use Rattle.std.specs.Prelude.{Ok, Err}
use Rattle.codes.specs.declared.ParsingError.{ParsingError}
use Rattle.codes.specs.declared.NodeId.{NodeId}
use Rattle.codes.specs.declared.Read.{Read}
use Rattle.codes.specs.Answer.{ParseResult, row, state}
use Rattle.codes.specs.Words.{As, Gives, Sized, nodes}
use Rattle.codes.proofs.Onto.{Onto, stays, split, moved}
use Rattle.codes.proofs.Loops.{Going, sets-out, goes-round, held_in, same-held, turn-refused, turn_last, turn-again}
use Rattle.codes.proofs.Loops.{round-over}
use Rattle.nodes.specs.declared.ActiveList.{ActiveList}
use Rattle.nodes.specs.Answer.{WithinSlots, ends, active, past}
use Rattle.nodes.proofs.Laws.{active-ends, past-none, more-turn, last-turn}
use Rattle.nodes.proofs.Bounds.{slots}
use Rattle.lists.specs.declared.CountedList.{CountedList}
use Rattle.nodes.specs.declared.Turn.{Turn}
use Rattle.nodes.specs.declared.Turn.TheVariants.{More, Last}
use Rattle.lists.specs.Answer.{Counted, counted, counted_list, turned}
use Rattle.lists.proofs.Laws.{counted-back, plain-turned}
use Rattle.lists.proofs.Bounds.{Fits, item-turn}
use Rattle.openings.specs.Answer.{listed}
use Rattle.expressions.specs.Answer.{within, list_items}
use Rattle.rules.specs.Codes.{pick, refusal_of}
use Rattle.rules.specs.Codes.BaseToken as BaseToken
use Rattle.rules.specs.Codes.Limit as Limit
use Rattle.rules.specs.Codes.Refusal as Refusal
use Rattle.rules.specs.Reading.{Rule, Row, ok, Outcome, kind_of, Step, done, again, pure, refuse, repeat, loop, ◌>>=◌}
use Rattle.rules.specs.Reading.{optional}
use Rattle.rules.specs.Words.{Words, words}
use Rattle.rules.specs.Expressions.{Owner, call, structural, elements, closing_of, item_end, list_item, list_end, field}
use Rattle.rules.specs.Expressions.{expression, items, comma_list}
use Rattle.rules.proofs.Forward.{Goes, Nonzero, Round, picks}
use Rattle.rules.proofs.Forward.{below}
use Rattle.rules.proofs.Moves.{expression-moves, field-moves, list-item}

-- the rule for an item, by the closing token
abbrev item_by : Row → ℕ → ℕ → Rule Words ℕ
item_by row u closing =
    pick (eqb closing BaseToken.BraceRight) (field words row (expression words row u)) (expression words row u)

item-moves : (at : Row) (u closing c : ℕ) → Goes (length at.kinds) (item_by at u closing) c (λ _ p. c < p)
item-moves at u closing c =
    let x = expression-moves (below at) (omega arith) u in
    picks (eqb closing BaseToken.BraceRight) (field-moves (below at) (omega arith) x c) (x c)

-- the cursor where a token is not there
optional-none :
    (at : Row) (key c : ℕ) (s : Words) {p : ℕ} {t : Words} → optional at key c s ≡ pure false p t →
    c ≤ length at.kinds → p ≤ length at.kinds
unfolding optional
optional-none at key c s {p} q h =
    let x : ok (eqb (kind_of at c) key) ≡ ok false = ap (λ (o : Outcome Words Bool). o.result) q in
    let d : eqb (kind_of at c) key ≡ false = cc in
    let y : pick (eqb (kind_of at c) key) (c + 1) c ≡ p = ap (λ (o : Outcome Words Bool). o.cursor) q in
    let z : c ≡ p = rw d at y in
    omega arith

-- after an item, or none: the list's end is among the nodes, and it has no more items than there are nodes
item-fits :
    (at : Row) (u closing : ℕ) (l : Counted) {c : ℕ} {s : Words} {b : Step Counted Counted} {c' : ℕ} {s' : Words} →
    Onto (list_item words at closing (item_by at u closing) l) c s (pure b) c' s' → s.count ≤ length s.words →
    c ≤ length at.kinds → Fits l s → Fits (held_in b) s'
unfolding list_item optional
item-fits at u closing l {c} {s} {b} {c'} {s'} e room h f =
    let w = split e in
    go w.value w.one.same w.two
  where
    go :
        (v : Bool) {p : ℕ} {t : Words} → optional at closing c s ≡ pure v p t →
        Onto (pick v (pure (done l)) (item_by at u closing >>= λ e. item_end words at closing l e)) p t (pure b) c' s' →
        Fits (held_in b) s'
    go true {p} {t} q e =
        let (y, z) = same-held (done l) b p c' e in
        let x : s.count ≡ t.count = ap (λ (o : Outcome Words Bool). o.state.count) q in
        let u : past (active l.0) ≡ past (active (held_in b).0) = ap (λ (x : Counted). past (active x.0)) y in
        let v : l.1 ≡ (held_in b).1 = ap (λ (x : Counted). x.1) y in
        (omega arith, omega arith)
    go false {p} {t} q e =
        let w = split e in
        let x : s ≡ t = ap (λ (o : Outcome Words Bool). o.state) q in
        let y : t.count ≤ length t.words = rw x at room in
        let n : p ≤ length at.kinds = optional-none at closing c s q h in
        let (_, _, g) = moved w.one (item-moves at u closing p) y n in
        let z : s.count ≡ t.count = ap (λ (o : Outcome Words Bool). o.state.count) q in
        item-turn at closing l _ w.two (omega (arith, g.grew))

-- a turn of the code is that of the rules
module _ {z : ParseResult (Read (Turn CountedList))} {v : Read (Turn CountedList)} (w : z ≡ Ok v) {m : CountedList} where
  more_same : v.value ≡ More m → z ≡ Ok (turned (again (counted m)) (state v.cursor v.count))
  more_same e = more-turn counted_list w (counted-back m) e

  last-same : v.value ≡ Last m → z ≡ Ok (turned (done (counted m)) (state v.cursor v.count))
  last-same e = last-turn counted_list w (counted-back m) e

-- the closing tokens are no EndOfSource, and have refusals of their own
closings : (owner : Owner) → Nonzero (refusal_of (closing_of owner)) × Nonzero (closing_of owner)
closings (call name builtin) = (refl, refl)
closings (structural name) = (refl, refl)
closings elements = (refl, refl)

-- the items by what the list belongs to
one-item :
    (at : Row) (u : ℕ) (owner : Owner) → items words at (expression words at u) owner ≡
    comma_list words at owner (item_by at u (closing_of owner))
unfolding items
one-item at u (call name builtin) = refl
one-item at u (structural name) = refl
one-item at u elements = refl

-- Between two items of a list: what is left of it.
abbrev pub Items : List ℕ → List ℕ → ℕ → Owner → ℕ → ℕ → Words → CountedList → ℕ → Words → Type 0
Items tk tv u owner closing c₀ s₀ l c s =
    (closing ≡ closing_of owner) ×
    Going (within (listed owner) u (row tk tv)) c₀ s₀
    (λ n m. repeat (λ m. list_items closing m u (row tk tv)) (refuse Refusal.OutOfRounds 0 0) n m >>= λ m.
    list_end words owner m) (length tk) (counted l) c s

pub first-item :
    (tk tv : List ℕ) (u : ℕ) (owner : Owner) (closing c : ℕ) (s : Words) → closing ≡ closing_of owner →
    (l : ActiveList) → ends l ≡ none →
    Items tk tv u owner closing c s (record { list = l; items = 0 }) c s
unfolding within listed comma_list loop list_items
first-item tk tv u owner closing c s e l q =
    (e, sets-out _ (record { same = rw (one-item (row tk tv) u owner, e, q) refl }))

pub none-fits : (l : ActiveList) → ends l ≡ none → (k : ℕ) → past l ≤ k
none-fits l q k = let e = past-none l q in omega arith

module _ (tk tv : List ℕ) (u : ℕ) (owner : Owner) (closing c₀ : ℕ) {s₀ : Words} (l : CountedList) (c k : ℕ)
    {ks : List ℕ} (h : Items tk tv u owner closing c₀ s₀ l c (nodes ks k)) {z : ParseResult (Read (Turn CountedList))} {ks₁ : List ℕ}
    (g : As turned (list_items closing (counted l) u (row tk tv)) c (nodes ks k) z ks₁) where
  pub list-refused : {e : ParsingError} → z ≡ Err e → Gives (within (listed owner) u (row tk tv)) c₀ s₀ (Err e) ks₁
  list-refused w = turn-refused _ _ _ _ _ h.1.onto g w

  module _ {v : Read (Turn CountedList)} (w : z ≡ Ok v) where
    pub list_read :
        {m : CountedList} → v.value ≡ Last m → {r : ParseResult (Read NodeId)} {ks₂ : List ℕ} →
        Gives (list_end words owner (counted m)) v.cursor.0 (nodes ks₁ v.count) r ks₂ →
        Gives (within (listed owner) u (row tk tv)) c₀ s₀ r ks₂
    list_read {m} e d = turn_last _ _ _ _ _ h.1.onto g plain-turned {b = counted m} (last-same w e) d

    module _ (y : Sized tk tv ks c k) (f : past l.list ≤ k) (f' : l.items ≤ k) where
      turn-after :
          (b : Step Counted Counted) → z ≡ Ok (turned b (state v.cursor v.count)) →
          Sized tk tv ks₁ v.cursor.0 v.count × Round 0 c b v.cursor.0 ×
          Fits (held_in b) (nodes ks₁ v.count)
      unfolding list_items
      turn-after b q =
          let (n, n') = closings owner in
          round-over y plain-turned
          (list-item (below (row tk tv)) (omega arith) (item-moves (row tk tv) u closing) closing
          (rw h.0 n) (rw h.0 n') (counted l) c) Fits
          (λ b p s e _. item-fits (row tk tv) u closing (counted l) e y.used y.at (rw (active-ends l.list) f, f')) g b q

      module _ {m : CountedList} (e : v.value ≡ More m) where
        turn-more :
            Sized tk tv ks₁ v.cursor.0 v.count × (c < v.cursor.0) ×
            Fits (counted m) (nodes ks₁ v.count)
        turn-more = turn-after (again (counted m)) (more_same w e)

        pub turn-sized : Sized tk tv ks₁ v.cursor.0 v.count
        turn-sized = turn-more.0

        pub turn-fits : past m.list ≤ v.count
        turn-fits = let x = turn-more.2.0 in rw (active-ends m.list) at x

        pub turn-counts : m.items ≤ v.count
        turn-counts = turn-more.2.1

        pub turn-less : length tk - v.cursor.0 < length tk - c
        turn-less = let (a, b, x) = turn-more in omega (arith, a.at)

        pub next-item : Items tk tv u owner closing c₀ s₀ m v.cursor.0 (nodes ks₁ v.count)
        next-item =
            let (a, b, x) = turn-more in (
              h.0,
              goes-round _ h.1
                  (λ n. turn-again _ _ _ _ _ stays g plain-turned {b = counted m} (more_same w e)) b a.at,
            )

      module _ {m : CountedList} (e : v.value ≡ Last m) where
        turn-whole :
            Sized tk tv ks₁ v.cursor.0 v.count × Round {A = Counted} {B = Counted} 0 c (done (counted m)) v.cursor.0 ×
            Fits (counted m) (nodes ks₁ v.count)
        turn-whole = turn-after (done (counted m)) (last-same w e)

        pub list-slots : WithinSlots ks₁ v.count
        list-slots = slots turn-whole.0

        pub list-fits : past m.list ≤ v.count
        list-fits = let x = turn-whole.2.0 in rw (active-ends m.list) at x

        pub list-load : m.items ≤ Limit.Load
        list-load = let (a, _, x) = turn-whole in omega (arith, a.used, a.slots, x.1)
