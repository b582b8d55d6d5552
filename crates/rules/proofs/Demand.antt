-- What is proved of the five rules: see specs/Demand.
use Prim.Native.Nat.{ℕ, ◌≤◌, ◌<◌}
use native.Mathlib.Omega.{arith}
use native.Mathlib.Decide.{dec_le}
use mathlib.Core.Logic.{inl, inr, ◌≢◌}
use mathlib.Core.Path.{◌≡◌, refl, sym, ◌∙◌}
use mathlib.Core.List.{[], ◌∷◌}
use lib.ListN.{length}
use Rattle.rules.specs.Codes.Refusal as Refusal
use Rattle.rules.specs.Reading.{Rule, Row, Result, ok, no}
use Rattle.rules.specs.Trees.{Tree, trees}
use Rattle.rules.specs.Columns.{Nodes, columns}
use Rattle.rules.specs.Words.{Words, words as in_words, Alongside, Agrees}
use Rattle.rules.specs.Places.{Placed}
use Rattle.rules.specs.Frame.{Frame}
use Rattle.rules.specs.Demand.{Paired, WholeParse, Closed, Demand}
use Rattle.rules.specs.Types.{type}
use Rattle.rules.specs.Expressions.{expression}
use Rattle.rules.specs.Declarations.{constant, struct, word}
use Rattle.rules.proofs.Lists.{get_d_past}
use Rattle.rules.proofs.Ways.{root, strip, whole}
use Rattle.rules.proofs.Laid.{nothing, start}
use Rattle.rules.proofs.Sim.{Token, Both, Via}
use Rattle.rules.proofs.Steps.{Follows}
use Rattle.rules.proofs.Grow.{Beside, At}
use Rattle.rules.proofs.Beside.{beside, row-once}
use Rattle.rules.proofs.Types.{type-rule}
use Rattle.rules.proofs.Expressions.{expression-rule}
use Rattle.rules.proofs.Declarations.{constant-rule, struct-rule, word-rule}
use Rattle.rules.proofs.Forward.{Stop, Left, below}
use Rattle.rules.proofs.Moves.{type-moves, expression-moves, constant-moves, struct-moves, word-moves}
use Rattle.rules.proofs.Words.{Reader, Packs, unended, agrees, packing, once}
use Rattle.rules.proofs.Words as Words
use Rattle.rules.proofs.Roots.{type-packs, expression-packs}
use Rattle.rules.proofs.Starts as Starts

-- the frame of columns in which nothing was appended
unchanged : (o : Nodes) → Frame o o
unchanged o = record {
  grew = omega arith;
  fits = λ h. h;
  kinds_kept = refl;
  loads_kept = refl;
  below = λ m g. (refl, refl);
  above = λ m g. (refl, refl);
}

module _ {o : Nodes} {m : Rule Nodes ℕ} {m' : Rule (Unit {0}) Tree}
    (h : Follows (beside o) m m') (z : Paired o) (c : ℕ) where
  both :
      Both (Beside o) (Via root strip (λ t. At o (t ∷ []) nothing)) (m c o).result (m c o).cursor (m c o).state
      (m' c tt).result (m' c tt).cursor tt
  unfolding beside
  both = (h 0 nothing).run c c o tt refl (unchanged o) (record { on = start o z.even z.room; placed = tt })

  accepted : (r : ℕ) → (m c o).result ≡ ok r → WholeParse o r (m c o) (m' c tt)
  accepted r e = go (m' c tt).result refl (rw e at both)
    where
      go :
          (q : Result Tree) → (m' c tt).result ≡ q →
          Both (Beside o) (Via root strip (λ t. At o (t ∷ []) nothing)) (ok r) (m c o).cursor (m c o).state q
          (m' c tt).cursor tt →
          WholeParse o r (m c o) (m' c tt)
      go (ok t) d b = let (u, x, y, a) = b.2 in record {
        tree = t;
        same = d;
        cursor = sym b.0;
        whole = rw (← x, ← y) (whole (m c o).state o.count u a.on.claim.0 (λ n. omega (arith, a.on.once n)));
        last = rw (← x) a.placed.0;
      }
      go (no x y v) d b = absurd b

  refused :
      (n x y : ℕ) → (m c o).result ≡ no n x y → n ≢ Refusal.NoSlot → n ≢ Refusal.OutOfRounds →
      ((m' c tt).result ≡ no n x y) × ((m' c tt).cursor ≡ (m c o).cursor)
  refused n x y e d d' = elim (rw e at both) [
    | inl a ↦ absurd (elim a.0 [ inl b ↦ d b | inr b ↦ d' b ])
    | inr a ↦ (rw (a.starts, a.ends) a.reply, sym a.cursor)
  ]

  framed : Frame o (m c o).state
  framed = go (m c o).result (m' c tt).result both
    where
      go :
          (r : Result ℕ) (q : Result Tree) →
          Both (Beside o) (Via root strip (λ t. At o (t ∷ []) nothing)) r (m c o).cursor (m c o).state q
          (m' c tt).cursor tt →
          Frame o (m c o).state
      go (ok a) (ok b) d = d.1
      go (ok a) (no x y v) d = absurd d
      go (no x y v) q d = elim d [ inl a ↦ a.1 | inr a ↦ a.states ]

-- a row's tokens stand below its last place where EndOfSource stands there
below_last : {row : Row} (z : Closed row) → Stop row z.last
below_last {row} z = record {
  within = λ i h.
      let b = (below row).within i h in
      elim (dec_le z.last i) [
        | Dec.yes d ↦ let e : i ≡ z.last = omega (arith, z.size) in absurd (h (rw e z.kind))
        | Dec.no d ↦ omega arith
      ];
}

-- some words as long as the columns
abbrev beneath : Nodes → Words
beneath o = record { words = o.kinds; count = o.count }

lie-beneath : (o : Nodes) → Paired o → Alongside o (beneath o)
lie-beneath o z = record { count = refl; size = refl; even = z.even }

module _ {row : Row} {m : Rule Nodes ℕ} {m' : Rule (Unit {0}) Tree} {q : Rule Words ℕ}
    (follows : (o : Nodes) → Follows (beside o) m m') (reader : Reader row q) (packs : Packs m q) where
  agree : Agrees m q
  agree = agrees reader packs

  -- what is left of an outcome that is known, as with words
  left :
      (n : ℕ) → Stop row n → n ≤ length row.kinds →
      (o : Nodes) (c : ℕ) → Paired o → c ≤ n → (r : Result ℕ) → (m c o).result ≡ r →
      Left n (λ _ c'. c < c') (beneath o) r (m c o).cursor (q c (beneath o)).state
  left n stop size o c z b r e =
      let (x, y, _) = agree o (beneath o) c z (lie-beneath o z) in
      rw (← y) (Words.left reader n stop size (beneath o) c z.room b r (x ∙ e))

  numbered : (o : Nodes) (c n x y : ℕ) → Paired o → (m c o).result ≡ no n x y → n ≢ Refusal.OutOfRounds
  numbered o c n x y z e =
      unended reader (beneath o) c n x y z.room ((agree o (beneath o) c z (lie-beneath o z)).0 ∙ e)

  placed :
      (o : Nodes) (c n x y : ℕ) → Paired o → (m c o).result ≡ no n x y →
      Placed c o n x y (m c o).cursor (m c o).state.count
  placed o c n x y z e =
      let (a, b, p) = agree o (beneath o) c z (lie-beneath o z) in
      let d = sym (p.along.size ∙ (framed (follows o) z c).kinds_kept) in
      rw (← b, ← p.along.count) (Words.placed reader packs (beneath o) c n x y z.room (a ∙ e) c o d)

  ahead :
      (o : Nodes) (c root : ℕ) → Paired o → (m c o).result ≡ ok root →
      (c < (m c o).cursor) × ((m c o).cursor ≤ length row.kinds)
  ahead o c root z e = elim (dec_le c (length row.kinds)) [
    | Dec.yes d ↦ let l = left (length row.kinds) (below row) (omega arith) o c z d _ e in (l.1, l.0)
    | Dec.no d ↦
        let f = (agree o (beneath o) c z (lie-beneath o z)).0 ∙ e in
        absurd (rw f at ((reader.starts c (get_d_past row.kinds c 0 (omega arith))).run (beneath o)))
  ]

  pub demand : Demand row m m'
  demand = record {
    accepted = λ o c r z e. accepted (follows o) z c r e;
    refused = λ o c n x y z e d. refused (follows o) z c n x y e d (numbered o c n x y z e);
    framed = λ o c z. framed (follows o) z c;
    ahead = ahead;
    before_end = λ o c r z d b e.
        let l = left d.last (below_last d) (omega (arith, d.size)) o c z (omega (arith, d.size)) _ e in
        omega (arith, d.size, l.0);
    at_end = λ o c n x y z d b e.
        let l = left d.last (below_last d) (omega (arith, d.size)) o c z (omega (arith, d.size)) _ e in
        omega (arith, d.size, l.0);
    placed = placed;
  }

-- a token's number, which is the same in both
abbrev at : {o : Nodes} → ℕ → Token (Beside o)
at n = record { left = n; right = n; both = refl }

module _ (row : Row) (unused : ℕ) where
  type-reader : Reader row (type in_words row unused)
  type-reader = record {
    moves = λ _ stop size. type-moves stop size unused;
    starts = λ _ e. Starts.types row e unused;
  }

  expression-reader : Reader row (expression in_words row unused)
  expression-reader = record {
    moves = λ _ stop size. expression-moves stop size unused;
    starts = λ _ e. Starts.expressions row e unused;
  }

  pub type-agrees : Agrees (type columns row unused) (type in_words row unused)
  type-agrees = agrees type-reader (type-packs row unused)

  pub expression-agrees : Agrees (expression columns row unused) (expression in_words row unused)
  expression-agrees = agrees expression-reader (expression-packs row unused)

  pub types : Demand row (type columns row unused) (type trees row unused)
  types = demand (λ o. type-rule (beside o) (row-once o row) unused) type-reader (type-packs row unused)

  pub expressions : Demand row (expression columns row unused) (expression trees row unused)
  expressions = demand
      (λ o. expression-rule (beside o) (row-once o row) unused)
      expression-reader (expression-packs row unused)

  module _ (start flags : ℕ) where
    constant-reader : Reader row (constant in_words row unused start flags)
    constant-reader = record {
      moves = λ _ stop size. constant-moves stop size unused start flags;
      starts = λ _ e. Starts.constants row e unused start flags;
    }

    struct-reader : Reader row (struct in_words row unused start flags)
    struct-reader = record {
      moves = λ _ stop size. struct-moves stop size unused start flags;
      starts = λ _ e. Starts.structs row e unused start flags;
    }

    word-reader : (kind : ℕ) → Reader row (word in_words row unused start flags kind)
    word-reader kind = record {
      moves = λ _ stop size. word-moves stop size unused start flags kind;
      starts = λ _ e. Starts.words row e unused start flags kind;
    }

    constant-packs : Packs (constant columns row unused start flags) (constant in_words row unused start flags)
    constant-packs b v = constant-rule (packing b v) (once b v row) unused (Words.at start) flags

    struct-packs : Packs (struct columns row unused start flags) (struct in_words row unused start flags)
    struct-packs b v = struct-rule (packing b v) (once b v row) unused (Words.at start) flags

    word-packs :
        (kind : ℕ) → Packs (word columns row unused start flags kind) (word in_words row unused start flags kind)
    word-packs kind b v = word-rule (packing b v) (once b v row) unused (Words.at start) flags kind

    pub constant-agrees : Agrees (constant columns row unused start flags) (constant in_words row unused start flags)
    constant-agrees = agrees constant-reader constant-packs

    pub struct-agrees : Agrees (struct columns row unused start flags) (struct in_words row unused start flags)
    struct-agrees = agrees struct-reader struct-packs

    pub word-agrees :
        (kind : ℕ) → Agrees (word columns row unused start flags kind) (word in_words row unused start flags kind)
    word-agrees kind = agrees (word-reader kind) (word-packs kind)

    pub constants : Demand row (constant columns row unused start flags) (constant trees row unused start flags)
    constants = demand
        (λ o. constant-rule (beside o) (row-once o row) unused (at start) flags)
        constant-reader constant-packs

    pub structs : Demand row (struct columns row unused start flags) (struct trees row unused start flags)
    structs = demand
        (λ o. struct-rule (beside o) (row-once o row) unused (at start) flags)
        struct-reader struct-packs

    pub words :
        (kind : ℕ) →
        Demand row (word columns row unused start flags kind) (word trees row unused start flags kind)
    words kind = demand
        (λ o. word-rule (beside o) (row-once o row) unused (at start) flags kind)
        (word-reader kind) (word-packs kind)
