-- The model of words beside columns: from any contents, what is appended is the same.
use Prim.Native.Nat.{ℕ, ◌+◌, ◌≤◌, ◌<◌}
use native.Mathlib.Omega.{arith}
use native.Mathlib.Decide.{dec_le}
use mathlib.Core.Bool.{Bool, true, false}
use mathlib.Core.Logic.{inl, inr, ◌≢◌}
use mathlib.Core.Path.{◌≡◌, refl}
use mathlib.Core.List.{List, [], ◌∷◌}
use mathlib.Core.Option.{Option, some, none}
use lib.ListN.{length, length-set}
use lib.Seq.{get_or-set_same, get_or-set_other}
use lib.Dec.{ltb, eqb}
use borrow.Author.Tests.{eqb-true, eqb-false, ltb-true, ltb-false}
use Rattle.rules.specs.Codes.Refusal as Refusal
use Rattle.rules.specs.Codes.ParseNode as ParseNode
use Rattle.rules.specs.Reading.{Rule, Result, Row, ok, no, kind_of, ◌>>=◌}
use Rattle.rules.specs.Lists.{Ends, extended, ended, push_list_item, push_end_of_list}
use Rattle.rules.specs.Columns.{Nodes, columns}
use Rattle.rules.specs.Columns as C
use Rattle.rules.specs.Places.{Placed}
use Rattle.rules.specs.Words.{Words, word_at, packed, written, append, patch}
use Rattle.rules.specs.Words.{words, Exact, Packed, Agrees}
use Rattle.rules.specs.Ways.{kind_at, load_at}
use Rattle.rules.proofs.Lists.{get_d_past}
use Rattle.rules.proofs.Sim.{Relation, Known, Token, Sim, Both, Via, ◌for◌, each, gives, eased, loosened}
use Rattle.rules.proofs.Model.{Rows, Model, one-row, equal, fits_byte, plus}
use Rattle.rules.proofs.Steps.{First, Gains, Follows}
use Rattle.rules.proofs.Forward.{Stop, Goes, Left, below}
use Rattle.rules.proofs.Starts.{Refuses}

pub exact : Exact
exact = record {
  kind = λ k l h. omega arith;
  load = λ k l h. omega arith;
  word = λ w. omega arith;
  fits = λ k l h g. omega arith;
  small = λ w h. (omega arith, omega arith);
}

-- nodes stand below the count
abbrev Below : ℕ → List ℕ → Type 0
Below count [] = Unit {0}
Below count (n ∷ ns) = (n < count) × Below count ns

-- a node or an open list that is laid aside
data Entry : Type 0 where
  node : ℕ → Entry
  list : Option Ends → Entry

-- the node and the list's items stand below the count too, and the last item from base on
abbrev Among : ℕ → ℕ → Entry → Type 0
Among base count (node n) = n < count
Among base count (list none) = Unit {0}
Among base count (list (some l)) = (l.first < count) × (base ≤ l.last) × (l.last < count)

abbrev Everywhere : ℕ → ℕ → List Entry → Type 0
Everywhere base count [] = Unit {0}
Everywhere base count (e ∷ es) = Among base count e × Everywhere base count es

one_more : (base count : ℕ) (e : Entry) → Among base count e → Among base (count + 1) e
one_more base count (node n) h = omega arith
one_more base count (list none) h = tt
one_more base count (list (some l)) h = (omega arith, h.1, omega arith)

all_more : (base count : ℕ) (es : List Entry) → Everywhere base count es → Everywhere base (count + 1) es
all_more base count [] h = tt
all_more base count (e ∷ es) h = (one_more base count e h.0, all_more base count es h.1)

below_more : (count : ℕ) (ns : List ℕ) → Below count ns → Below (count + 1) ns
below_more count [] h = tt
below_more count (n ∷ ns) h = (omega arith, below_more count ns h.1)

-- a node from base on is written in both
module _ {base : ℕ} {v : Words} {s : Nodes} {w : Words} (h : Packed base v s w) (n k l count : ℕ) (low : base ≤ n)
    (inside : n < count) (grew : s.count ≤ count) (fits : count ≤ length s.kinds) (byte : k < 256)
    (old : (m : ℕ) → m < count → m ≢ n → m < s.count) where
  at-node :
      (m : ℕ) → base ≤ m → m < count →
      (kind_at (C.written s n k l count) m < 256) ×
      (word_at (written w n k l count) m ≡
      packed (kind_at (C.written s n k l count) m) (load_at (C.written s n k l count) m))
  at-node m a b = go (eqb m n) refl
    where
      go :
          (t : Bool) → eqb m n ≡ t →
          (kind_at (C.written s n k l count) m < 256) ×
          (word_at (written w n k l count) m ≡
          packed (kind_at (C.written s n k l count) m) (load_at (C.written s n k l count) m))
      go true z =
          let d = eqb-true m n z in
          rw (
            d,
            get_or-set_same w.words n (packed k l) 0 (omega (arith, h.along.size)),
            get_or-set_same s.kinds n k 0 (omega arith),
            get_or-set_same s.loads n l 0 (omega (arith, h.along.even)),
          ) (byte, refl)
      go false z =
          let d = eqb-false m n z in
          rw (
            get_or-set_other w.words n m (packed k l) 0 d,
            get_or-set_other s.kinds n m k 0 d,
            get_or-set_other s.loads n m l 0 d,
          ) (h.nodes m a (old m b d))

  both-written : Packed base v (C.written s n k l count) (written w n k l count)
  both-written = record {
    along = record {
      count = refl;
      size = simp length-set h.along.size;
      even = simp length-set h.along.even;
    };
    grew = omega arith;
    fits = simp length-set fits;
    nodes = at-node;
    below = λ m a. rw (get_or-set_other w.words n m (packed k l) 0 (λ e. omega arith)) (h.below m a);
    above = λ m a. rw (get_or-set_other w.words n m (packed k l) 0 (λ e. omega arith)) (h.above m (omega arith));
  }

module _ (base : ℕ) (v : Words) where
  abbrev pub Packing : Relation Words Nodes
  Packing = record {
    Cursors = λ c c'. c ≡ c';
    States = λ w s. Packed base v s w;
    Excused = λ x _ _. x ≡ Refusal.OutOfRounds;
    Shared = λ n x y c w.
        n ≢ Refusal.OutOfRounds → (given : ℕ) (o : Nodes) → length o.kinds ≡ length w.words →
        Placed given o n x y c w.count;
  }

  -- the nodes that stand last, and the open lists
  abbrev Stand : List ℕ → List Entry → ℕ → Words → Nodes → Type 0
  Stand ts F c w s = Below w.count ts × Everywhere base w.count F

  abbrev Equal : {A : Type 0} → (A → ℕ → Words → Nodes → Type 0) → A → A → ℕ → Words → Nodes → Type 0
  Equal = Via (λ a. a) (λ a. a)

  -- a node is appended, which stands among those from base on
  abbrev New : List ℕ → List Entry → ℕ → ℕ → Words → Nodes → Type 0
  New ts F p c w s = (base ≤ p) × (p < w.count) × Stand ts F c w s

  append-sim :
      (k l l' : ℕ) (ts : List ℕ) (F : List Entry) → ltb k 256 ≡ true → l ≡ l' →
      Sim Packing (Stand ts F) (Equal (New ts F)) (append k l) (C.append k l')
  unfolding append C.append
  append-sim k l l' ts F byte d = rw (← d) (record {
    run = λ c c' w s e h f. rw (← e) (go c w s h f (ltb s.count (length s.kinds)) refl);
  })
    where
      go :
          (c : ℕ) (w : Words) (s : Nodes) → Packed base v s w → Stand ts F c w s →
          (t : Bool) → ltb s.count (length s.kinds) ≡ t →
          Both Packing (Equal (New ts F)) (append k l c w).result (append k l c w).cursor (append k l c w).state
          (C.append k l c s).result (C.append k l c s).cursor (C.append k l c s).state
      go c w s h f true e =
          let b = ltb-true k 256 byte in
          let r = ltb-true s.count (length s.kinds) e in
          let f' : Below s.count ts × Everywhere base s.count F = rw h.along.count at f in
          rw (h.along.count, h.along.size, e) (
            refl,
            both-written h s.count k l (s.count + 1) h.grew (omega arith) (omega arith) (omega arith) b
                (λ m a z. omega arith),
            (
              s.count,
              refl,
              refl,
              (h.grew, omega arith, (below_more s.count ts f'.0, all_more base s.count F f'.1)),
            ),
          )
      go c w s h f false e =
          let e' : ltb w.count (length w.words) ≡ false = rw (h.along.count, h.along.size) e in
          let full = ltb-false s.count (length s.kinds) e in
          rw (e, e') (inr (record {
            start = c;
            end = c;
            reply = refl;
            shared = λ _ _ o d. (refl, refl, omega (arith, h.fits, h.along.count, h.along.size));
            starts = refl;
            ends = refl;
            cursor = refl;
            states = h;
          }))

  node-sim :
      (k l l' : ℕ) (ts : List ℕ) (F : List Entry) → ltb k 256 ≡ true → l ≡ l' →
      Sim Packing (Stand ts F) (Equal (λ p. Stand (p ∷ []) F)) (append k l) (C.append k l')
  node-sim k l l' ts F byte d =
      loosened (λ a b c w s q. (q.0, q.1, q.2, ((q.3.1, tt), q.3.2.1))) (append-sim k l l' ts F byte d)

  leaf-sim :
      (k l l' : ℕ) (ts : List ℕ) (F : List Entry) → ltb k 256 ≡ true → l ≡ l' →
      Sim Packing (Stand ts F) (Equal (λ p. Stand (p ∷ ts) F)) (append k l) (C.append k l')
  leaf-sim k l l' ts F byte d =
      loosened (λ a b c w s q. (q.0, q.1, q.2, ((q.3.1, q.3.2.0), q.3.2.1))) (append-sim k l l' ts F byte d)

  patched :
      (s : Nodes) (w : Words) (n l : ℕ) → Packed base v s w → base ≤ n → n < w.count →
      Packed base v (C.written s n ParseNode.ListItem l s.count) (written w n ParseNode.ListItem l w.count)
  patched s w n l h a b =
      rw h.along.count
      (both-written h n ParseNode.ListItem l s.count a (omega (arith, h.along.count)) (omega arith) h.fits
      (omega arith) (λ m i _. i))

  extended-sim :
      (l : Option Ends) (p : ℕ) (ts : List ℕ) (F : List Entry) →
      Sim Packing (New ts (list l ∷ F) p) (Equal (λ m. Stand [] (list m ∷ F))) (extended append patch l p) (extended C.append C.patch l p)
  unfolding extended patch C.patch ◌>>=◌
  extended-sim none p ts F = gives λ c w s f. (_, refl, refl, (tt, ((f.1, f.0, f.1), f.2.1.1)))
  extended-sim (some l) p ts F = record {
    run = λ c c' w s e h f.
        let (a, b, d) = f.2.1.0 in
        (e, patched s w l.last p h b d, (_, refl, refl, (tt, ((a, f.0, f.1), f.2.1.1))));
  }

  ended-sim :
      (l : Option Ends) (p : ℕ) (F : List Entry) →
      Sim Packing (New [] (list l ∷ F) p) (Equal (λ n. Stand [] (node n ∷ F))) (ended append patch l p) (ended C.append C.patch l p)
  unfolding ended patch C.patch ◌>>=◌
  ended-sim none p F = gives λ c w s f. (_, refl, refl, (tt, (f.1, f.2.1.1)))
  ended-sim (some l) p F = record {
    run = λ c c' w s e h f.
        let (a, b, d) = f.2.1.0 in
        (e, patched s w l.last p h b d, (_, refl, refl, (tt, (a, f.2.1.1))));
  }

  pub packing : Model words columns Packing
  unfolding push_list_item push_end_of_list
  packing = record {
    N = ℕ;
    nodeˡ = λ n. n;
    nodeʳ = λ n. n;
    L = Option Ends;
    listˡ = λ l. l;
    listʳ = λ l. l;
    Besides = List Entry;
    held = λ t F. node t ∷ F;
    opened = λ l F. list l ∷ F;
    At = λ _ ts F. Stand ts F;
    paid = λ _ _ _ _ _ _ _ _ f. f;
    less = λ _ _ _ _ _ _ f. f;
    aside = λ _ _ _ _ _ _ f. (tt, (f.0.0, f.1));
    shared = λ _ _ _ _ w h z given o _. h z given o w.count;
    node = λ _ ts F k l l' e d. node-sim k l l' ts F (fits_byte k e) (equal Packing k l l' (λ x. x) d);
    leaf = λ _ ts F k l l' e d. leaf-sim k l l' ts F (fits_byte k e) (equal Packing k l l' (λ x. x) d);
    link = λ _ ts F k u e. eased (λ c w s f. (f.0, f.1.1)) (leaf-sim k u u ts F (fits_byte k e) refl);
    begin = λ _ F _ _ _ f. (none, refl, refl, (tt, (tt, f.1)));
    item = λ _ F l t.
        append-sim ParseNode.UnpatchedListItem 0 0 (t ∷ []) (list l ∷ F) refl refl for each λ p. extended-sim l p (t ∷ []) F;
    close = λ _ F l. append-sim ParseNode.NoMoreItems 0 0 [] (list l ∷ F) refl refl for each λ p. ended-sim l p F;
  }

-- one row, read twice, and a token's number
pub once : (base : ℕ) (v : Words) (row : Row) → Rows (Packing base v) row row
once base v row = one-row _ _ _ row (λ c s s' k. refl)

abbrev pub at : {base : ℕ} {v : Words} → ℕ → Token (Packing base v)
at n = record { left = n; right = n; both = refl }

-- a rule with columns and with words: what they append is the same
abbrev pub Packs : Rule Nodes ℕ → Rule Words ℕ → Type 0
Packs m q = (base : ℕ) (v : Words) → Follows (packing base v) q m

-- What is known of a rule with words by itself: that it moves the cursor, and refuses at EndOfSource.
pub record Reader (row : Row) (q : Rule Words ℕ) : Type 0 where
  pub moves : (n : ℕ) → Stop row n → n ≤ length row.kinds → (c : ℕ) → Goes n q c (λ _ c'. c < c')
  pub starts : (c : ℕ) → kind_of row c ≡ 0 → Refuses q c

module _ {row : Row} {q : Rule Words ℕ} (r : Reader row q) where
  -- what is left of an outcome that is known
  pub left :
      (n : ℕ) → Stop row n → n ≤ length row.kinds →
      (w : Words) (c : ℕ) → w.count ≤ length w.words → c ≤ n → (a : Result ℕ) → (q c w).result ≡ a →
      Left n (λ _ c'. c < c') w a (q c w).cursor (q c w).state
  left n stop size w c z b a e = rw (← e) ((r.moves n stop size c).run w z b)

  pub unended :
      (w : Words) (c n x y : ℕ) → w.count ≤ length w.words → (q c w).result ≡ no n x y → n ≢ Refusal.OutOfRounds
  unended w c n x y z e = elim (dec_le c (length row.kinds)) [
    | Dec.yes d ↦ eqb-false n 0 (left (length row.kinds) (below row) (omega arith) w c z d _ e).1
    | Dec.no d ↦ eqb-false n 0 (rw e at ((r.starts c (get_d_past row.kinds c 0 (omega arith))).run w))
  ]

  pub agrees : {m : Rule Nodes ℕ} → Packs m q → Agrees m q
  unfolding packing
  agrees {m} packs s w c z k =
      go (q c w).result refl (m c s).result refl ((packs s.count w 0 []).run c c w s refl begun (tt, tt))
    where
      begun : Packed s.count w s w
      begun = record {
        along = k;
        grew = omega arith;
        fits = z.room;
        nodes = λ i a b. absurd (omega arith);
        below = λ i a. refl;
        above = λ i a. refl;
      }

      go :
          (a : Result ℕ) → (q c w).result ≡ a → (b : Result ℕ) → (m c s).result ≡ b →
          Both (Packing s.count w) (Equal s.count w (λ n. Stand s.count w (n ∷ []) [])) a (q c w).cursor
          (q c w).state b (m c s).cursor (m c s).state →
          ((q c w).result ≡ (m c s).result) × ((q c w).cursor ≡ (m c s).cursor) ×
          Packed s.count w (m c s).state (q c w).state
      go (ok n) x (ok n') x' b = (rw (x, x', ← b.2.1, ← b.2.2) refl, b.0, b.1)
      go (ok n) x (no i j l) x' b = absurd b
      go (no n i j) x b x' f = elim f [
        | inl e ↦ absurd (unended w c n i j (omega (arith, z.room, k.count, k.size)) x e)
        | inr e ↦ (rw (x, x', e.reply, e.starts, e.ends) refl, e.cursor, e.states)
      ]

-- The node that a rule with words reads stands below the count, where it is said to stand last, or to be laid aside.
columns_of : Words → Nodes
columns_of w = record { kinds = w.words; loads = w.words; count = w.count }

begun : (w : Words) → w.count ≤ length w.words → Packed w.count w (columns_of w) w
unfolding columns_of
begun w z = record {
  along = record { count = refl; size = refl; even = refl };
  grew = omega arith;
  fits = z;
  nodes = λ i a b. absurd (omega arith);
  below = λ i a. refl;
  above = λ i a. refl;
}

rooted-in :
    {q : Rule Words ℕ} {m : Rule Nodes ℕ} (w : Words) (c n : ℕ) → w.count ≤ length w.words →
    (q c w).result ≡ ok n → (G : ℕ → Known Words Nodes) →
    ((i c : ℕ) (v : Words) (s : Nodes) → G i c v s → i < v.count) →
    Sim (Packing w.count w) (Stand w.count w [] []) (Equal w.count w G) q m → n < (q c w).state.count
rooted-in {q} {m} w c n z e G f h =
    go (m c (columns_of w)).result (rw e at (h.run c c w (columns_of w) refl (begun w z) (tt, tt)))
  where
    go :
        (r : Result ℕ) →
        Both (Packing w.count w) (Equal w.count w G) (ok n) (q c w).cursor
        (q c w).state r (m c (columns_of w)).cursor (m c (columns_of w)).state →
        n < (q c w).state.count
    go (ok k) b = let (i, x, y, g) = b.2 in rw (← x) (f i _ _ _ g)
    go (no i j l) b = absurd b

pub rooted :
    (k : ℕ) {q : Rule Words ℕ} {m : Rule Nodes ℕ} → ((base : ℕ) (v : Words) → Gains (packing base v) k q m) →
    (w : Words) (c n : ℕ) → w.count ≤ length w.words → (q c w).result ≡ ok n → n < (q c w).state.count
unfolding packing
rooted k follows w c n z e =
    rooted-in w c n z e (λ n. Stand w.count w (n ∷ []) []) (λ i c v s f. f.0.0)
    (follows w.count w 0 [])

pub rooted-aside :
    (k : ℕ) {q : Rule Words ℕ} {m : Rule Nodes ℕ} →
    ((base : ℕ) (v : Words) (x : ℕ) (F : (packing base v).Besides) →
    Sim (Packing base v) ((packing base v).At x [] F) (First (packing base v) (plus k x) F) q m) →
    (w : Words) (c n : ℕ) → w.count ≤ length w.words → (q c w).result ≡ ok n → n < (q c w).state.count
unfolding packing
rooted-aside k follows w c n z e =
    rooted-in w c n z e (λ n. Stand w.count w [] (node n ∷ [])) (λ i c v s f. f.1.0)
    (follows w.count w 0 [])

-- A refusal of a rule with words has a number of the list and its place, whatever was given in as many slots.
pub placed :
    {row : Row} {q : Rule Words ℕ} {m : Rule Nodes ℕ} → Reader row q → Packs m q →
    (w : Words) (c n x y : ℕ) → w.count ≤ length w.words → (q c w).result ≡ no n x y →
    (given : ℕ) (o : Nodes) → length o.kinds ≡ length (q c w).state.words →
    Placed given o n x y (q c w).cursor (q c w).state.count
unfolding packing
placed reader packs w c n x y z e given o d =
    let h = unended reader w c n x y z e in
    elim (rw e at ((packs w.count w 0 []).run c c w (columns_of w) refl (begun w z) (tt, tt))) [
      | inl a ↦ absurd (h a)
      | inr a ↦ a.shared h given o d
    ]
