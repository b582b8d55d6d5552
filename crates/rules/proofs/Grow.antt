-- Columns beside trees: a node that is appended is the one that the builder of trees makes.
use Prim.Native.Nat.{ℕ, suc, ◌+◌, ◌-◌, ◌<◌}
use native.Mathlib.Omega.{arith}
use mathlib.Core.Bool.{Bool, true, false}
use mathlib.Core.Logic.{◌⊎◌, inl}
use mathlib.Core.Path.{◌≡◌, refl}
use mathlib.Core.List.{List, [], ◌∷◌, map}
use lib.ListN.{length}
use lib.Dec.{ltb}
use borrow.Author.Tests.{ltb-true, le-leb}
use Rattle.rules.specs.Reading.{ok, pure}
use Rattle.rules.specs.Codes.Refusal as Refusal
use Rattle.rules.specs.Codes.{linked, parts_of}
use Rattle.rules.specs.Frame.{Frame}
use Rattle.rules.specs.Trees.{node, fnil, fcons, forest}
use Rattle.rules.specs.Columns.{Nodes, written, append}
use Rattle.rules.specs.Ways.{links, place, parts}
use Rattle.rules.proofs.Ways.{Numbered, Row, numbered, rnil, rcons, root, roots, strip, strips}
use Rattle.rules.proofs.Ways.{All, times_all}
use Rattle.rules.proofs.Laid.{Claim, tree, ◌⋆◌, holds, counts, On, turn, appended, framed}
use Rattle.rules.proofs.Sim.{Relation, Known, Sim, Both, Via}
use Rattle.rules.proofs.Model.{backs}

-- The same row and cursor in both, and the frame throughout. That the slots are used up is excused: trees have none.
abbrev pub Beside : Nodes → Relation Nodes (Unit {0})
Beside o = record {
  Cursors = λ c c'. c ≡ c';
  States = λ s _. Frame o s;
  Excused = λ x _ s. ((x ≡ Refusal.NoSlot) ⊎ (x ≡ Refusal.OutOfRounds)) × Frame o s;
  Shared = λ _ _ _ _ _. Unit {0};
}

abbrev row : List Numbered → Row
row [] = rnil
row (t ∷ ts) = rcons t (row ts)

-- the trees, and the claim besides
abbrev above : List Numbered → Claim → Claim
above [] F = F
above (t ∷ ts) F = tree t ⋆ above ts F

-- their roots stand i, i + 1 .. before n
abbrev Placed : ℕ → ℕ → List Numbered → Type 0
Placed n i [] = Unit {0}
Placed n i (t ∷ ts) = (root t + i ≡ n) × Placed n (suc i) ts

-- the trees ts stand, the last one's root first, at the end of the columns, whatever the cursor
pub record At (o : Nodes) (ts : List Numbered) (F : Claim) (c : ℕ) (s : Nodes) (u : Unit {0}) : Type 0 where
  pub on : On o (above ts F) s
  pub placed : Placed s.count 1 ts

all_above : (ts : List Numbered) (F : Claim) (s : Nodes) → holds (above ts F) s → All s (row ts) × holds F s
all_above [] F s h = (tt, h)
all_above (t ∷ ts) F s h = let (a, b) = all_above ts F s h.1 in ((h.0, a), b)

counts-above : (ts : List Numbered) (F : Claim) (m : ℕ) → counts (above ts F) m ≡ times_all (row ts) m + counts F m
counts-above [] F m = omega arith
counts-above (t ∷ ts) F m = omega (arith, counts-above ts F m)

unlinked : (i : ℕ) (ts : List Numbered) → links (backs i ts) ≡ false
unlinked i [] = refl
unlinked i (t ∷ ts) = unlinked (suc i) ts

places : (n l i : ℕ) (ts : List Numbered) → Placed n i ts → map (place n l) (backs i ts) ≡ roots (row ts)
places n l i [] p = refl
places n l i (t ∷ ts) p =
    let d : n - i ≡ root t = omega arith in
    rw (le-leb i n (omega arith), d, places n l (suc i) ts p.1)

further : (n i : ℕ) (ts : List Numbered) → Placed n i ts → Placed (n + 1) (suc i) ts
further n i [] p = tt
further n i (t ∷ ts) p = (omega arith, further n (suc i) ts p.1)

above-all : (ts : List Numbered) (F : Claim) (s : Nodes) → All s (row ts) → holds F s → holds (above ts F) s
above-all [] F s a h = h
above-all (t ∷ ts) F s a h = (a.0, above-all ts F s a.1 h)

strips-map : (ts : List Numbered) → forest (map strip ts) ≡ strips (row ts)
strips-map [] = refl
strips-map (t ∷ ts) = rw (strips-map ts) refl

module _ {o : Nodes} {P : Known Nodes (Unit {0})} {B : Type 0} {Q : ℕ → B → Known Nodes (Unit {0})} where
  -- an append, after which what it leaves in the columns is claimed
  pub append-sim :
      (k l : ℕ) (b : B) →
      ((c : ℕ) (s : Nodes) → P c s tt → s.count < length s.kinds →
      (F : Claim) × On o F (written s s.count k l (s.count + 1)) ×
      Q s.count b c (written s s.count k l (s.count + 1)) tt) →
      Sim (Beside o) P Q (append k l) (pure b)
  unfolding append
  append-sim k l b f = record {
    run = λ c c' s s' e h p. rw (← e) (go c s h p (ltb s.count (length s.kinds)) refl);
  }
    where
      go :
          (c : ℕ) (s : Nodes) → Frame o s → P c s tt → (t : Bool) → ltb s.count (length s.kinds) ≡ t →
          Both (Beside o) Q (append k l c s).result (append k l c s).cursor (append k l c s).state (ok b) c tt
      go c s h p true e = let (F, x, y) = f c s p (ltb-true s.count (length s.kinds) e) in rw e (refl, framed x, y)
      go c s h p false e = rw e (inl (inl refl, h))

module _ {o : Nodes} {F : Claim} where
  -- a node whose parts stand before it
  pub node-beside :
      {ts : List Numbered} (k l : ℕ) → parts_of k ≡ backs 1 ts →
      Sim (Beside o) (At o ts F) (Via root strip (λ t. At o (t ∷ []) F))
      (append k l) (pure (node k l (forest (map strip ts))))
  unfolding parts
  node-beside {ts} k l e =
      append-sim k l (node k l (forest (map strip ts))) λ c s p r.
      let d : links (parts_of k) ≡ false = rw e (unlinked 1 ts) in
      let on = turn
      {G = above (numbered s.count k l (row ts) ∷ []) F}
      (λ h. let (a, b) = all_above ts F _ h.1 in (
        (h.0.0, rw d h.0.1, rw (h.0.0, h.0.1, e) (places s.count l 1 ts p.placed), a),
        b,
      ))
      (λ m. omega (arith, counts-above ts F m))
      (appended k l r p.on) in (
        _,
        on,
        (
          numbered s.count k l (row ts),
          refl,
          rw (strips-map ts) refl,
          record { on = on; placed = (refl, tt) },
        ),
      )

  -- a node without parts
  pub leaf-beside :
      {ts : List Numbered} (k l : ℕ) → parts_of k ≡ [] →
      Sim (Beside o) (At o ts F) (Via root strip (λ t. At o (t ∷ ts) F)) (append k l) (pure (node k l fnil))
  unfolding parts
  leaf-beside {ts} k l e =
      append-sim k l (node k l fnil) λ c s p r.
      let on = turn
      {G = above (numbered s.count k l rnil ∷ ts) F}
      (λ h. ((h.0.0, rw e h.0.1, rw (h.0.0, e), tt), h.1))
      (λ m. omega arith)
      (appended k l r p.on) in (
        _,
        on,
        (
          numbered s.count k l rnil,
          refl,
          refl,
          record { on = on; placed = (refl, further s.count 1 ts p.placed) },
        ),
      )

  -- a node that links to a tree among the others
  pub link-beside :
      {ts : List Numbered} (k : ℕ) (u : Numbered) → parts_of k ≡ linked ∷ [] →
      Sim (Beside o) (At o ts (tree u ⋆ F)) (Via root strip (λ t. At o (t ∷ ts) F))
      (append k (root u)) (pure (node k 0 (fcons (strip u) fnil)))
  unfolding parts
  link-beside {ts} k u e =
      append-sim k (root u) (node k 0 (fcons (strip u) fnil)) λ c s p r.
      let on = turn
      {G = above (numbered s.count k 0 (rcons u rnil) ∷ ts) F}
      (λ h. let (a, b) = all_above ts (tree u ⋆ F) _ h.1 in (
        (h.0.0, rw e, rw (h.0.0, h.0.1, e), (b.0, tt)),
        above-all ts F _ a b.1,
      ))
      (λ m. omega (arith, counts-above ts F m, counts-above ts (tree u ⋆ F) m))
      (appended k (root u) r p.on) in (
        _,
        on,
        (
          numbered s.count k 0 (rcons u rnil),
          refl,
          refl,
          record { on = on; placed = (refl, further s.count 1 ts p.placed) },
        ),
      )
