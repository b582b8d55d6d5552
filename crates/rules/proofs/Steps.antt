-- The steps that rules are made of, over any two rows and builders of a model.
use Prim.Native.Nat.{ℕ, zero, suc, ◌+◌}
use mathlib.Core.Bool.{Bool, true, false}
use mathlib.Core.Logic.{◌≢◌, inr}
use mathlib.Core.Path.{◌≡◌, refl}
use mathlib.Core.List.{List, [], ◌∷◌, map}
use lib.ListN.{length}
use lib.Dec.{eqb}
use native.Mathlib.Omega.{arith}
use Rattle.rules.specs.Codes.{pick, lookup, refusals, refusal_of, linked}
use Rattle.rules.specs.Codes.Refusal as Refusal
use Rattle.rules.specs.Reading.{Rule, Row, ok, no, ◌>>=◌, pure, refuse, here, kind_of, peek, take, consume}
use Rattle.rules.specs.Reading.{optional, Step, loop}
use Rattle.rules.specs.Builder.{Builder}
use Rattle.rules.specs.Places.{Place, place_of, taken, HasPlace}
use Rattle.rules.specs.Columns.{Nodes}
use Rattle.rules.proofs.Sim.{Relation, Known, Token, Both, Sim, Alike, Any, Via}
use Rattle.rules.proofs.Sim.{each, opens, gives, eased, loosened, refuse-sim}
use Rattle.rules.proofs.Rounds.{Stepped, rounds-sim}
use Rattle.rules.proofs.Model.{Rows, Model, Placing, Kind, Loaded, backs, plus}

infixr 20 ◌otherwise◌
-- the numbers of a table, which are all of refusals at a token that was taken
abbrev AllTaken : List (ℕ × ℕ) → Type 0
AllTaken [] = Unit {0}
AllTaken (e ∷ es) = (place_of e.1 ≡ taken) × AllTaken es

taken-entry :
    (k : ℕ) (es : List (ℕ × ℕ)) → AllTaken es → lookup k es 0 ≢ Refusal.OutOfRounds → place_of (lookup k es 0) ≡ taken
taken-entry k [] h z = absurd (z refl)
taken-entry k (e ∷ es) h z = go (eqb k e.0) (taken-entry k es h.1) z
  where
    go :
        (b : Bool) → (lookup k es 0 ≢ Refusal.OutOfRounds → place_of (lookup k es 0) ≡ taken) →
        pick b e.1 (lookup k es 0) ≢ Refusal.OutOfRounds → place_of (pick b e.1 (lookup k es 0)) ≡ taken
    go true r z = h.0
    go false r z = r z

-- the refusal of an unexpected token stands at that token, which was taken
unexpected : (k c : ℕ) → Placing (refusal_of k) c c (c + 1)
unexpected k c z given o count =
    rw (taken-entry k refusals (refl, (refl, (refl, (refl, (refl, (refl, (refl, (refl, (refl, (refl, tt)))))))))) z)
    (refl, refl)

-- what is read is a token's number
abbrev pub TokenRead : {S S' : Type 0} → Relation S S' → Known S S' → ℕ → ℕ → Known S S'
TokenRead rel P = Via {I = Token rel} (λ t. t.left) (λ t. t.right) (λ _. P)

-- P is known, and the left cursor
abbrev pub AtCursor : {S S' : Type 0} → ℕ → Known S S' → Known S S'
AtCursor n P c s s' = (c ≡ n) × P c s s'

module _ {S S' : Type 0} {rel : Relation S S'} {P : Known S S'} where
  pub here-sim : Sim rel P (TokenRead rel P) here here
  unfolding here
  here-sim = record {
    run = λ c c' s s' e k p. (e, k, (record { left = c; right = c'; both = e }, refl, refl, p));
  }

  -- the same, where the cursor is to be known after it
  pub here-at : Sim rel P (Via {I = Token rel} (λ t. t.left) (λ t. t.right) (λ t. AtCursor t.left P)) here here
  unfolding here
  here-at = record {
    run = λ c c' s s' e k p. (e, k, (record { left = c; right = c'; both = e }, refl, refl, (refl, p)));
  }

  pub peek-sim : {row row' : Row} → Rows rel row row' → Sim rel P (Alike Any P) (peek row) (peek row')
  unfolding peek
  peek-sim R = record { run = λ c c' s s' e k p. (e, k, (R.kinds c c' e, tt, p)) }

module _ {S S' : Type 0} {rel : Relation S S'} {A B C D : Type 0}
    {Q : A → B → Known S S'} {R : C → D → Known S S'} where
  pub loop-sim :
      {row row' : Row} → Rows rel row row' → {f : A → Rule S (Step A C)} {f' : B → Rule S' (Step B D)} →
      ((a : A) (b : B) → Sim rel (Q a b) (Stepped Q R) (f a) (f' b)) →
      (a : A) (b : B) → Sim rel (Q a b) R (loop row f a) (loop row' f' b)
  unfolding loop
  loop-sim {row} {row'} X h a b =
      rounds-sim _ _ _ _ X.over h (suc (length row.kinds)) (suc (length row'.kinds))
      (omega (arith, X.rounds)) a b

-- The two rules after a token that may be missing: from P where it was taken, from P' where it is missing.
pub record Optional {S S' : Type 0} (rel : Relation S S') {A A' : Type 0} (P P' : Known S S') (Q : A → A' → Known S S')
    (f : Bool → Rule S A) (f' : Bool → Rule S' A') : Type 0 where
  pub taken : Sim rel P Q (f true) (f' true)
  pub missing : Sim rel P' Q (f false) (f' false)

pub ◌otherwise◌ :
    {S S' : Type 0} {rel : Relation S S'} {A A' : Type 0} {P P' : Known S S'} {Q : A → A' → Known S S'}
    {f : Bool → Rule S A} {f' : Bool → Rule S' A'} →
    Sim rel P Q (f true) (f' true) → Sim rel P' Q (f false) (f' false) → Optional rel P P' Q f f'
◌otherwise◌ h g = record { taken = h; missing = g }

module _ {B B' : Builder} {rel : Relation B.S B'.S} (M : Model B B' rel) where
  -- what is read is a node of the model
  abbrev pub Yields : (M.N → Known B.S B'.S) → B.N → B'.N → Known B.S B'.S
  Yields = Via M.nodeˡ M.nodeʳ

  -- what is read is the node that was appended last
  abbrev pub One : ℕ → M.Besides → B.N → B'.N → Known B.S B'.S
  One x F = Yields (λ t. M.At x (t ∷ []) F)

  -- what is read is a list's first item, or its end
  abbrev pub First : ℕ → M.Besides → B.N → B'.N → Known B.S B'.S
  First x F = Yields (λ t. M.At x [] (M.held t F))

  -- what is read is an open list
  abbrev pub Open : ℕ → M.Besides → B.L → B'.L → Known B.S B'.S
  Open x F = Via M.listˡ M.listʳ (λ l. M.At x [] (M.opened l F))

  -- Rules that read one node, whatever else stands in the states. Their tokens pay for k nodes more than they append.
  abbrev pub Gains : ℕ → Rule B.S B.N → Rule B'.S B'.N → Type 0
  Gains k m m' = (x : ℕ) (F : M.Besides) → Sim rel (M.At x [] F) (One (plus k x) F) m m'

  -- for as many as they append
  abbrev pub Follows : Rule B.S B.N → Rule B'.S B'.N → Type 0
  Follows = Gains 0

  -- for all but one
  abbrev pub Costs : Rule B.S B.N → Rule B'.S B'.N → Type 0
  Costs m m' = (x : ℕ) (F : M.Besides) → Sim rel (M.At (suc x) [] F) (One x F) m m'

  -- both refuse, from a cursor that is known, at the place of the number
  pub refuse-at :
      {A A' : Type 0} {P : Known B.S B'.S} {Q : A → A' → Known B.S B'.S} {n cursor : ℕ} (p : Place) →
      place_of n ≡ p → (x y : Token rel) →
      ((given : ℕ) (o : Nodes) (count : ℕ) → HasPlace given o p x.left y.left cursor count) →
      Sim rel (AtCursor cursor P) Q (refuse n x.left y.left) (refuse n x.right y.right)
  refuse-at p e x y h =
      refuse-sim x y (λ c s s' k. M.shared _ _ _ c s (λ _ given o count. rw (e, k.0) (h given o count)))

  module _ {x : ℕ} {ts : List M.N} {F : M.Besides} where
    pub node-sim :
        {k l l' : ℕ} → Kind k (backs 1 ts) → Loaded rel k l l' →
        Sim rel (M.At (suc x) ts F) (One x F) (B.node k l (map M.nodeˡ ts)) (B'.node k l' (map M.nodeʳ ts))
    node-sim e d = M.node x ts F _ _ _ e d

    pub leaf-sim :
        {k l l' : ℕ} → Kind k [] → Loaded rel k l l' →
        Sim rel (M.At (suc x) ts F) (Yields (λ t. M.At x (t ∷ ts) F)) (B.node k l []) (B'.node k l' [])
    leaf-sim e d = M.leaf x ts F _ _ _ e d

    pub link-sim :
        {k : ℕ} {u : M.N} → Kind k (linked ∷ []) →
        Sim rel (M.At (suc x) ts (M.held u F)) (Yields (λ t. M.At x (t ∷ ts) F))
        (B.link k (M.nodeˡ u)) (B'.link k (M.nodeʳ u))
    link-sim e = M.link x ts F _ _ e

    -- k nodes more are paid for than are needed
    pub spare :
        (k : ℕ) {A A' : Type 0} {Q : A → A' → Known B.S B'.S} {m : Rule B.S A} {m' : Rule B'.S A'} →
        Sim rel (M.At x ts F) Q m m' → Sim rel (M.At (plus k x) ts F) Q m m'
    spare zero h = h
    spare (suc k) h = eased (λ c s s' p. M.less (plus k x) ts F c s s' p) (spare k h)

    module _ {row row' : Row} (R : Rows rel row row') where
      pub take-sim : Sim rel (M.At x ts F) (Alike Any (M.At (plus 5 x) ts F)) (take row) (take row')
      unfolding take
      take-sim = record {
        run = λ c c' s s' e k p.
            (R.next c c' e, k, (R.kinds c c' e, tt, M.paid x ts F c (c + 1) s s' (omega arith) p));
      }

      -- the same from a cursor that is known
      pub take_at :
          (at : Token rel) →
          Sim rel (AtCursor at.left (M.At x ts F)) (Alike Any (AtCursor (at.left + 1) (M.At (plus 5 x) ts F)))
          (take row) (take row')
      unfolding take
      take_at at = record {
        run = λ c c' s s' e k p.
            let q = M.paid x ts F c (c + 1) s s' (omega arith) p.1 in
            (R.next c c' e, k, (R.kinds c c' e, tt, (rw p.0 refl, q)));
      }

      pub consume-sim :
          (kind : ℕ) →
          Sim rel (M.At x ts F) (Alike Any (M.At (plus 5 x) ts F)) (consume row kind) (consume row' kind)
      unfolding consume
      consume-sim kind = record {
        run = λ c c' s s' e k p. rw (R.kinds c c' e) (go (eqb (kind_of row' c') kind) c c' s s' e k p);
      }
        where
          go :
              (b : Bool) (c c' : ℕ) (s : B.S) (s' : B'.S) →
              rel.Cursors c c' → rel.States s s' → M.At x ts F c s s' →
              Both rel (Alike Any (M.At (plus 5 x) ts F)) (pick b (ok (tt {0})) (no (refusal_of kind) c c)) (c + 1) s
              (pick b (ok (tt {0})) (no (refusal_of kind) c' c')) (c' + 1) s'
          go true c c' s s' e k p = (R.next c c' e, k, (refl, tt, M.paid x ts F c (c + 1) s s' (omega arith) p))
          go false c c' s s' e k p = inr (record {
            start = c';
            end = c';
            reply = refl;
            shared = M.shared (refusal_of kind) c c (c + 1) s (unexpected kind c);
            starts = e;
            ends = e;
            cursor = R.next c c' e;
            states = k;
          })

      -- a token that may be missing; where it is, all that was known before still is
      pub optionally-from :
          {A A' : Type 0} {P : Known B.S B'.S} {Q : A → A' → Known B.S B'.S}
          {f : Bool → Rule B.S A} {f' : Bool → Rule B'.S A'} →
          ((c : ℕ) (s : B.S) (s' : B'.S) → P c s s' → M.At x ts F c s s') →
          (kind : ℕ) → Optional rel (M.At (plus 5 x) ts F) P Q f f' →
          Sim rel P Q (optional row kind >>= f) (optional row' kind >>= f')
      unfolding ◌>>=◌ optional
      optionally-from {P = P} {Q} {f} {f'} w kind h = record {
        run = λ c c' s s' e k p. rw (R.kinds c c' e) (go (eqb (kind_of row' c') kind) c c' s s' e k p);
      }
        where
          go :
              (b : Bool) (c c' : ℕ) (s : B.S) (s' : B'.S) →
              rel.Cursors c c' → rel.States s s' → P c s s' →
              Both rel Q (f b (pick b (c + 1) c) s).result (f b (pick b (c + 1) c) s).cursor
              (f b (pick b (c + 1) c) s).state (f' b (pick b (c' + 1) c') s').result
              (f' b (pick b (c' + 1) c') s').cursor (f' b (pick b (c' + 1) c') s').state
          go true c c' s s' e k p =
              h.taken.run (c + 1) (c' + 1) s s' (R.next c c' e) k
              (M.paid x ts F c (c + 1) s s' (omega arith) (w c s s' p))
          go false c c' s s' e k p = h.missing.run c c' s s' e k p

      pub optionally :
          {A A' : Type 0} {Q : A → A' → Known B.S B'.S} {f : Bool → Rule B.S A} {f' : Bool → Rule B'.S A'}
          (kind : ℕ) → Optional rel (M.At (plus 5 x) ts F) (M.At x ts F) Q f f' →
          Sim rel (M.At x ts F) Q (optional row kind >>= f) (optional row' kind >>= f')
      optionally = optionally-from (λ c s s' p. p)

  module _ {x : ℕ} {F : M.Besides} where
    -- k nodes more are paid for at the end than is said
    pub fewer :
        {P : Known B.S B'.S} {m : Rule B.S B.N} {m' : Rule B'.S B'.N}
        (k : ℕ) → Sim rel P (One (plus k x) F) m m' → Sim rel P (One x F) m m'
    fewer zero h = h
    fewer (suc k) h = fewer k
        (loosened (λ a b c s s' q. (q.0, q.1, q.2, M.less (plus k x) (q.0 ∷ []) F c s s' q.3)) h)

    pub item-sim :
        (l : M.L) (t : M.N) →
        Sim rel (M.At (suc x) (t ∷ []) (M.opened l F)) (Open x F)
        (B.item (M.listˡ l) (M.nodeˡ t)) (B'.item (M.listʳ l) (M.nodeʳ t))
    item-sim l t = M.item x F l t

    pub close-sim :
        (l : M.L) →
        Sim rel (M.At (suc x) [] (M.opened l F)) (First x F) (B.close (M.listˡ l)) (B'.close (M.listʳ l))
    close-sim l = M.close x F l

    -- a list without items
    pub closed-at-once : Sim rel (M.At (suc x) [] F) (First x F) (B.close B.begin) (B'.close B'.begin)
    closed-at-once =
        eased (M.begin (suc x) F)
        (opens {f = B.close} {f' = B'.close} (each λ l. M.close x F l) B.begin B'.begin)

    -- the node that was appended last is laid aside for what is read next
    pub under :
        {m : Rule B.S B.N} {m' : Rule B'.S B'.N} (t : M.N) → Follows m m' →
        Sim rel (M.At x (t ∷ []) F) (One x (M.held t F)) m m'
    under t h = eased (M.aside x t F) (h x (M.held t F))

    -- the node that was appended last is read
    pub stays :
        (t : M.N) → Sim rel (M.At x (t ∷ []) F) (One x F) (pure (M.nodeˡ t)) (pure (M.nodeʳ t))
    stays t = gives λ c s s' p. (t, refl, refl, p)
