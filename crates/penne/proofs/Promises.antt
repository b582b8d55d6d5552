-- How an entry's promise follows from its check and from the rules.
use mathlib.Core.Path.{◌≡◌, refl, sym, ◌∙◌, ap, subst}
use mathlib.Core.List.{List}
use mathlib.Core.Logic.{◌≢◌, ◌⊎◌, inl, inr}
use native.Mathlib.Decide.{dec_le}
use mathlib.Core.Option.{some, none}
use Prim.Native.Nat.{ℕ, ◌≤◌, ◌<◌}
use native.Mathlib.Omega.{arith}
use lib.ListN.{length, get_or}
use lib.Seq.{ext_get_or}
use Rattle.std.specs.Prelude.{Ok, Err, IsErrAnd}
use Rattle.std.proofs.lemmas.Result.{err_from_is_err_and}
use Rattle.codes.specs.declared.NodeId.{NodeId}
use Rattle.codes.specs.declared.ParsingError.{ParsingError}
use Rattle.codes.specs.declared.Read.{Read}
use Rattle.codes.specs.Answer.{ParseResult, Gives, answer, count_of, parsed, nodes, row, refusal}
use Rattle.codes.specs.Words as Core
use Rattle.codes.proofs.Onto.{told-read, plain-parsed}
use Rattle.checks.specs.declared.Failed.{Failed}
use Rattle.checks.specs.Answer.{Checked, check_of}
use Rattle.checks.specs.Checks.{Check}
use Rattle.checks.specs.Checks.{checked}
use Rattle.penne.specs.Answer.{passed}
use Rattle.penne.specs.Promise.{Parsed, cursor_of, Accepted, Refuses, Promise}
use Rattle.rules.specs.Codes.Refusal as Refusal
use Rattle.rules.specs.Reading.{Rule, Result, ok, no}
use Rattle.rules.specs.Trees.{Tree}
use Rattle.rules.specs.Columns.{Nodes}
use Rattle.rules.specs.Frame.{Frame}
use Rattle.rules.specs.Places.{Placed}
use Rattle.rules.specs.Words.{Words, word_at, word_kind, word_load, Alongside, Packed, Agrees}
use Rattle.rules.specs.Ways.{Whole, kind_at, load_at}
use Rattle.rules.specs.Demand as Demand
use Rattle.rules.proofs.Words.{exact}
use Rattle.checks.proofs.Laws.{Listed, Entered}

-- the count of a reply is that of the columns
pub counted : (res : Result ℕ) (p k : ℕ) → count_of (answer parsed res p k) ≡ k
counted (ok a) p k = refl
counted (no n x y) p k = refl

-- the result that a refusal tells of
told-refused :
    {e : ParsingError} (q : Result ℕ) (p k : ℕ) → Err e ≡ answer parsed q p k →
    (q ≡ no e.number e.start.0 e.end.0) × (p ≡ e.cursor.0)
told-refused (ok a) p k h = absurd cc
told-refused {e} (no n x y) p k h = let w : e ≡ refusal n x y p k = cc in rw w (refl, refl)

-- a result that is a refusal has its place
abbrev InPlace : ℕ → Nodes → Result ℕ → ℕ → ℕ → Type 0
InPlace c o (ok a) p k = Unit {0}
InPlace c o (no n x y) p k = Placed c o n x y p k

told-placed :
    (c : ℕ) (o : Nodes) (q : Result ℕ) (p k : ℕ) → InPlace c o q p k → {r : Parsed} → r ≡ answer parsed q p k →
    (e : ParsingError) → r ≡ Err e → Placed c o e.number e.start.0 e.end.0 e.cursor.0 e.count
told-placed c o (ok a) p k h d e g = let z = sym g ∙ d in absurd cc
told-placed c o (no n x y) p k h d e g =
    let z = sym g ∙ d in
    let w : refusal n x y p k ≡ e = cc in
    subst (λ (e : ParsingError). Placed c o e.number e.start.0 e.end.0 e.cursor.0 e.count) w h

-- the check of an entry, by what it is answered
module _ (t : Checked) (c k : ℕ) {p : ParseResult (Unit {0})} (h : p ≡ passed t c k) where
  pub check-passed : {u : Unit {0}} → p ≡ Ok u → t ≡ Ok u
  check-passed {u} g = go t (sym h ∙ g)
    where
      go : (t : Checked) → passed t c k ≡ Ok u → t ≡ Ok u
      go (Ok v) z = refl
      go (Err f) z = absurd cc

  check-failed :
      {e : ParsingError} → p ≡ Err e → (f : Failed) × (t ≡ Err f) × (e ≡ refusal f.number f.start.0 f.start.0 c k)
  check-failed {e} g = go t (sym h ∙ g)
    where
      go :
          (t : Checked) → passed t c k ≡ Err e →
          (f : Failed) × (t ≡ Err f) × (e ≡ refusal f.number f.start.0 f.start.0 c k)
      go (Ok v) z = absurd cc
      go (Err f) z = (f, refl, cc)

-- an entry's promise where its check refused: the exit of the `?` on its answer
pub check-refused :
    {tokens : ℕ} {m : Rule Nodes ℕ} {q : Rule (Unit {0}) Tree} {e : Check} → Listed e → {ns ls : List ℕ} →
    (t : Checked) (c k : ℕ) → check_of t ≡ e → {p : ParseResult (Unit {0})} → p ≡ passed t c k → {w : ParsingError} →
    p ≡ Err w →
    {r : Parsed} → IsErrAnd r (λ d. d ≡ w) → Promise tokens e m q c (nodes ns ls k) r ns ls
unfolding checked
check-refused {e = e} listed {ns} {ls} t c k h f g {r} i =
    let (b, d, a) = check-failed t c k f g in
    let (v, j, l) = err_from_is_err_and r i in
    let n = b.number in
    let x = b.start.0 in
    let w : some (n, x) ≡ e = sym (ap check_of d) ∙ h in
    let s : r ≡ Err (refusal n x x c k) = j ∙ ap Err (l ∙ a) in
    let z : Placed c (nodes ns ls k) n x x c k = rw (← w) at (listed.at c (nodes ns ls k)) in
    rw (← w, s) record {
      equal = record { reply = refl; kinds = refl; loads = refl };
      frame = record {
        grew = omega arith;
        fits = λ h. h;
        kinds_kept = refl;
        loads_kept = refl;
        below = λ i h. (refl, refl);
        above = λ i h. (refl, refl);
      };
      accepted = λ a d. absurd cc;
      refused = λ d. absurd cc;
      placed = told-placed c (nodes ns ls k) (no n x x) c k z refl;
      within = λ d. absurd cc;
    }

-- and where it passed
module _ {tk tv : List ℕ} {m : Rule Nodes ℕ} {q : Rule (Unit {0}) Tree} (D : Demand.Demand (row tk tv) m q)
    (c : ℕ) (o : Nodes) (y : Entered tk tv c o) where
  sizes : Demand.Paired o
  sizes = record { even = y.even; room = omega (arith, y.sized.used, y.even) }

  module _ {r : Parsed} {ks' ls' : List ℕ} (d : Gives m c o r ks' ls') where
    left-columns : (m c o).state ≡ nodes ks' ls' (count_of r)
    left-columns =
        let s = (m c o).state in
        let h : count_of r ≡ s.count = ap count_of d.reply ∙ counted (m c o).result _ _ in
        rw (d.kinds, d.loads, h) refl

    framed : Frame o (nodes ks' ls' (count_of r))
    framed = rw (← left-columns) (D.framed o c sizes)

    accepts :
        (v : Read NodeId) → r ≡ Ok v →
        Accepted (length tk) q c o.count (nodes ks' ls' v.count) v.value.0 v.cursor.0
    accepts v h =
        let (i, j, n) = told-read plain-parsed (m c o).result (m c o).cursor (m c o).state.count (sym h ∙ d.reply) in
        let l : (m c o).state ≡ nodes ks' ls' v.count = rw (d.kinds, d.loads, n) refl in
        let a = D.accepted o c v.value.0 sizes i in
        record {
          tree = a.tree;
          read = a.same;
          taken = a.cursor ∙ j;
          whole = subst (λ (s : Nodes). Whole s o.count v.value.0 a.tree) l a.whole;
          last = a.last ∙ ap (λ (s : Nodes). s.count) l;
          inside = subst (λ (n : ℕ). n < length tk) j (D.before_end o c v.value.0 sizes y.closed y.inside i);
        }

    stops : (res : Result ℕ) → (m c o).result ≡ res → cursor_of r ≤ length tk
    stops (ok root) i =
        let b = D.before_end o c root sizes y.closed y.inside i in
        subst (λ (p : Parsed). cursor_of p ≤ length tk) (sym d.reply) (rw i (omega arith))
    stops (no n x w) i =
        let b = D.at_end o c n x w sizes y.closed y.inside i in
        subst (λ (p : Parsed). cursor_of p ≤ length tk) (sym d.reply) (rw i b)

    refuses :
        (e : ParsingError) → r ≡ Err e → e.number ≢ Refusal.NoSlot →
        Refuses q c e.number e.start.0 e.end.0 e.cursor.0
    refuses e h v =
        let (i, k) = told-refused (m c o).result (m c o).cursor (m c o).state.count (sym h ∙ d.reply) in
        let a = D.refused o c e.number e.start.0 e.end.0 sizes i v in
        record { refused = a.0; at = a.1 ∙ k }

    in_place : (res : Result ℕ) → (m c o).result ≡ res → InPlace c o res (m c o).cursor (m c o).state.count
    in_place (ok root) i = tt
    in_place (no n x w) i = D.placed o c n x w sizes i

    pub rule-followed :
        {t : Checked} {e : Check} → check_of t ≡ e → {u : Unit {0}} → t ≡ Ok u → Promise (length tk) e m q c o r ks' ls'
    unfolding checked
    rule-followed f g =
        let w : none ≡ _ = sym (ap check_of g) ∙ f in
        rw (← w) record {
          equal = d;
          frame = framed;
          accepted = accepts;
          refused = λ _. refuses;
          placed = told-placed c o (m c o).result _ _ (in_place (m c o).result refl) d.reply;
          within = λ _. stops (m c o).result refl;
        }

  -- columns in place of words: what a rule with words w gives, given any words with as many slots and nodes
  module _ {v : Rule Words ℕ} (A : Agrees m v) (w : Words) (along : Alongside o w) {r : Parsed} {ws : List ℕ}
      (g : Core.Gives v c w r ws) where
    packed-same : Packed o.count w (m c o).state (v c w).state
    packed-same = (A o w c sizes along).2

    same-reply : r ≡ answer parsed (m c o).result (m c o).cursor (m c o).state.count
    same-reply = let (a, b, p) = A o w c sizes along in g.reply ∙ rw (a, b, p.along.count) refl

    same_count : count_of r ≡ (m c o).state.count
    same_count = ap count_of same-reply ∙ counted (m c o).result _ _

    -- there is room for the nodes of the reply
    pub replied-fits : (o.count ≤ count_of r) × (count_of r ≤ length o.kinds)
    replied-fits =
        let k = D.framed o c sizes in
        (omega (arith, same_count, k.grew), omega (arith, same_count, k.fits sizes.room, k.kinds_kept))

    pub same-slots : length ws ≡ length o.kinds
    same-slots = rw g.words (packed-same.along.size ∙ (D.framed o c sizes).kinds_kept)

    -- the words from the given count up to the replied one, and all others
    word-node :
        (i : ℕ) → o.count ≤ i → i < count_of r →
        (word_kind (get_or ws i 0) ≡ kind_at (m c o).state i) × (word_load (get_or ws i 0) ≡ load_at (m c o).state i)
    word-node i a b =
        let (h, e) = packed-same.nodes i a (omega (arith, same_count)) in
        rw (g.words, e) (exact.kind _ _ h, exact.load _ _ h)

    word_below : (i : ℕ) → i < o.count → get_or ws i 0 ≡ word_at w i
    word_below i a = rw g.words (packed-same.below i a)

    word-above : (i : ℕ) → count_of r ≤ i → get_or ws i 0 ≡ word_at w i
    word-above i a = rw g.words (packed-same.above i (omega (arith, same_count)))

    -- a column that has these, and is else what it was
    module _ (before : Nodes → List ℕ) (f : ℕ → ℕ) (xs : List ℕ) (size : length xs ≡ length (before (m c o).state))
        (new :
        (i : ℕ) → o.count ≤ i → i < count_of r → f (get_or ws i 0) ≡ get_or (before (m c o).state) i 0)
        (kept :
        (i : ℕ) → (i < o.count) ⊎ (count_of r ≤ i) → get_or (before (m c o).state) i 0 ≡ get_or (before o) i 0)
        (within : (i : ℕ) → o.count ≤ i → i < count_of r → get_or xs i 0 ≡ f (get_or ws i 0))
        (else : (i : ℕ) → (i < o.count) ⊎ (count_of r ≤ i) → get_or xs i 0 ≡ get_or (before o) i 0) where
      same-column : xs ≡ before (m c o).state
      same-column = ext_get_or 0 xs (before (m c o).state) size λ i _. elim (dec_le o.count i) [
        | Dec.yes a ↦ elim (dec_le (count_of r) i) [
          | Dec.yes b ↦ else i (inr b) ∙ sym (kept i (inr b))
          | Dec.no b ↦ within i a (omega arith) ∙ new i a (omega arith)
        ]
        | Dec.no a ↦ else i (inl (omega arith)) ∙ sym (kept i (inl (omega arith)))
      ]

    kinds_kept :
        (i : ℕ) → (i < o.count) ⊎ (count_of r ≤ i) → kind_at (m c o).state i ≡ kind_at o i
    kinds_kept i h = let k = D.framed o c sizes in elim h [
      | inl a ↦ (k.below i a).0
      | inr a ↦ (k.above i (omega (arith, same_count))).0
    ]

    loads_kept :
        (i : ℕ) → (i < o.count) ⊎ (count_of r ≤ i) → load_at (m c o).state i ≡ load_at o i
    loads_kept i h = let k = D.framed o c sizes in elim h [
      | inl a ↦ (k.below i a).1
      | inr a ↦ (k.above i (omega (arith, same_count))).1
    ]

    pub others : (i : ℕ) → (i < o.count) ⊎ (count_of r ≤ i) → get_or ws i 0 ≡ word_at w i
    others i h = elim h [ inl a ↦ word_below i a | inr a ↦ word-above i a ]

    pub columns-given :
        (ks ls : List ℕ) → length ks ≡ length o.kinds → length ls ≡ length o.kinds →
        ((i : ℕ) → o.count ≤ i → i < count_of r →
        (get_or ks i 0 ≡ word_kind (get_or ws i 0)) × (get_or ls i 0 ≡ word_load (get_or ws i 0))) →
        ((i : ℕ) → (i < o.count) ⊎ (count_of r ≤ i) → (get_or ks i 0 ≡ kind_at o i) × (get_or ls i 0 ≡ load_at o i)) →
        Gives m c o r ks ls
    columns-given ks ls a b within else =
        let k = D.framed o c sizes in
        record {
          reply = same-reply;
          kinds =
              same-column (λ s. s.kinds) word_kind ks (a ∙ sym k.kinds_kept) (λ i x z. (word-node i x z).0) kinds_kept
              (λ i x z. (within i x z).0) (λ i x. (else i x).0);
          loads =
              same-column (λ s. s.loads) word_load ls (b ∙ sym (k.loads_kept ∙ sizes.even)) (λ i x z. (word-node i x z).1)
              loads_kept (λ i x z. (within i x z).1) (λ i x. (else i x).1);
        }
