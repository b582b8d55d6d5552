-- What the tests of an input tell, and how the output follows from the parse.
use Prim.Native.Nat.{ℕ, ◌+◌, ◌*◌, ◌≤◌, ◌<◌}
use mathlib.Core.Bool.{Bool, true, false, not}
use mathlib.Core.List.{List}
use mathlib.Core.Path.{◌≡◌, refl, sym, ◌∙◌, ap, ap₂, subst}
use native.Mathlib.Omega.{arith}
use lib.ListN.{length, drop, take}
use Rattle.std.proofs.Common.{length-drop, take_all}
use Rattle.std.proofs.Math.Seq.{drop-drop}
use Rattle.std.proofs.lemmas.List.{get_or-take}
use lib.Dec.{ltb}
use Rattle.std.specs.Prelude.{Result, Ok, Err, None, Some, MatchResult}
use Rattle.std.specs.Result.{result_ok}
use borrow.Author.Tests.{ltb-false, lt-ltb, le-ltb, eq-eqb, ne_eqb}
use Rattle.codes.specs.Answer.{Gives, nodes, answer, count_of, parsed, row}
use Rattle.checks.specs.Checks.{or, unequal, input_check, checked}
use Rattle.checks.proofs.Laws.{neither, same}
use Rattle.penne.specs.Promise.{Parsed, Promise, Type'}
use Rattle.penne.specs.Promise.{Expression as Expression'}
use Rattle.penne.proofs.Promises.{counted}
use Rattle.rules.specs.Columns.{Nodes, columns}
use Rattle.rules.specs.Codes.Limit as Limit
use Rattle.rules.specs.Types.{type}
use Rattle.rules.specs.Expressions.{expression}
use Rattle.rules.specs.Reading.{Rule, Row}
use Rattle.rules.specs.Trees.{Tree, trees}
use Rattle.penne_nodes.specs.Input.{program_slots, sizes_before_kinds, program_tokens, size_at, bad, asking, asked, tokens_of, cursor_in, row_in}
use Rattle.penne_nodes.specs.Output.{parse, shown, output, columns_after, Answers}
use Rattle.node_text.specs.Text.{bad_file, reply, lines}
use Rattle.node_text.specs.declared.TextBuffer.{TextBuffer}
use Rattle.node_text.specs.Puts.{Puts, Room, Adds}
use Rattle.node_text.proofs.Texts.{then, reply-short}
use Rattle.penne_nodes.specs.declared.question.Entry.{Entry}
use Rattle.penne_nodes.specs.declared.question.Entry.TheVariants.{Expression, «Type»}
use Rattle.penne_nodes.specs.declared.question.NoEntry.{NoEntry}
use Rattle.penne_nodes.specs.declared.question.Question.{Question}
use Rattle.penne_nodes.specs.Parses.{Parses, Fits}
use Rattle.penne_nodes.specs.Question.{number_of, rule_of, Asks}

-- a bad file, by each of its tests
first-of : (a b : Bool) → a ≡ true → or a b ≡ true
first-of a b e = rw e refl

second-of : (a b : Bool) → b ≡ true → or a b ≡ true
second-of true b e = refl
second-of false b e = e

-- a size in the first bytes is that of the input
pub size_in_front :
    (bytes : List ℕ) {sizes : List ℕ} → sizes ≡ take sizes_before_kinds bytes → (at : ℕ) {n : ℕ} →
    at + 4 ≤ sizes_before_kinds → n ≡ size_at sizes at → n ≡ size_at bytes at
unfolding size_at
size_in_front bytes e at h q =
    let g = λ (k : ℕ) (b : k < sizes_before_kinds). get_or-take sizes_before_kinds bytes k 0 b in
    rw (
      e,
      g at (omega (arith, h)),
      g (at + 1) (omega (arith, h)),
      g (at + 2) (omega (arith, h)),
      g (at + 3) (omega (arith, h)),
    ) at q

module _ (bytes : List ℕ) where
  pub short_bad : length bytes < sizes_before_kinds → bad bytes ≡ true
  unfolding bad
  short_bad h = first-of _ _ (lt-ltb _ _ h)

  module _ {n : ℕ} (e : n ≡ size_at bytes 0) where
    pub many-bad : program_tokens < n → bad bytes ≡ true
    unfolding bad
    many-bad h = second-of _ _ (first-of _ _ (rw e at (lt-ltb _ _ h)))

    pub length-bad : (length bytes ≡ sizes_before_kinds + n + n → ⊥) → bad bytes ≡ true
    unfolding bad
    length-bad h = second-of _ _ (second-of _ _ (first-of _ _ (ap not (rw e at (ne_eqb _ _ h)))))

  pub entry-bad : {m : ℕ} → m ≡ size_at bytes 8 → 2 ≤ m → bad bytes ≡ true
  unfolding bad
  entry-bad {m} e h =
      let b : 1 < m = omega arith in
      let t = unequal (length bytes) (sizes_before_kinds + tokens_of bytes + tokens_of bytes) in
      let g = rw e at (lt-ltb 1 m b) in
      second-of (ltb (length bytes) sizes_before_kinds) _
      (second-of (ltb program_tokens (tokens_of bytes)) _ (second-of t _ g))

  pub not_bad :
      sizes_before_kinds ≤ length bytes → {n : ℕ} → n ≡ size_at bytes 0 → n ≤ program_tokens →
      length bytes ≡ sizes_before_kinds + n + n → {m : ℕ} → m ≡ size_at bytes 8 → m < 2 → bad bytes ≡ false
  unfolding bad
  not_bad h e b d {m} f g =
      let i : m ≤ 1 = omega arith in
      rw (le-ltb _ _ h, ← e, ← f, le-ltb _ _ b, eq-eqb _ _ d, le-ltb _ _ i) refl

-- what an input is that is not bad
pub record Good (bytes : List ℕ) : Type 0 where
  pub sizes : sizes_before_kinds ≤ length bytes
  pub tokens : tokens_of bytes ≤ program_tokens
  pub all : length bytes ≡ sizes_before_kinds + tokens_of bytes + tokens_of bytes

pub good : {bytes : List ℕ} → bad bytes ≡ false → Good bytes
unfolding bad
good {bytes} e =
    let (a, f) = neither (ltb (length bytes) sizes_before_kinds) _ e in
    let (b, g) = neither (ltb program_tokens (tokens_of bytes)) _ f in
    let (c, _) = neither (unequal (length bytes) (sizes_before_kinds + tokens_of bytes + tokens_of bytes)) _ g in
    record { sizes = ltb-false _ _ a; tokens = ltb-false _ _ b; all = same _ _ c }

-- the entry with this number, if there is one
pub no-entry :
    (r : Result Entry NoEntry) {n : ℕ} → MatchResult r (λ e. number_of e ≡ n) (λ _. 2 ≤ n) → result_ok r ≡ None → 2 ≤ n
no-entry (Ok e) h q = absurd cc
no-entry (Err e) h q = h

pub the-entry :
    (r : Result Entry NoEntry) {n : ℕ} → MatchResult r (λ e. number_of e ≡ n) (λ _. 2 ≤ n) → {entry : Entry} →
    result_ok r ≡ Some entry → number_of entry ≡ n
the-entry (Ok e) h {entry} q = let w : e ≡ entry = cc in ap number_of (sym w) ∙ h
the-entry (Err e) h q = absurd cc

-- the question of an input that is good
few_entries : (e : Entry) → number_of e < 2
few_entries Expression = omega arith
few_entries «Type» = omega arith

row_read :
    (bytes : List ℕ) (n : ℕ) → length bytes ≡ sizes_before_kinds + n + n → {columns kinds types : List ℕ} →
    columns ≡ drop sizes_before_kinds bytes → kinds ≡ take n columns → types ≡ drop n columns →
    row kinds types ≡ row_in bytes n
row_read bytes n l e f g =
    let rest = drop (sizes_before_kinds + n) bytes in
    let a : drop n (drop sizes_before_kinds bytes) ≡ rest = drop-drop n sizes_before_kinds bytes in
    let b : take n rest ≡ rest = take_all n rest (simp length-drop (omega arith)) in
    ap₂ (λ (ks vs : List ℕ). row ks vs) (f ∙ ap (take n) e) (g ∙ ap (drop n) e ∙ a ∙ sym b)

pub question-read :
    (bytes : List ℕ) → sizes_before_kinds ≤ length bytes → {n : ℕ} → n ≡ size_at bytes 0 → n ≤ program_tokens →
    {columns : List ℕ} → columns ≡ drop sizes_before_kinds bytes → length columns ≡ n + n → {m : ℕ} →
    m ≡ size_at bytes 8 → (question : Question) → number_of question.entry ≡ m →
    question.row.kinds.now ≡ take n columns → question.row.types.now ≡ drop n columns →
    question.cursor.0 ≡ size_at bytes 4 → Asks bytes question
question-read bytes h {n} e b d l f question i k t c =
    let s = few_entries question.entry in
    let x = length-drop sizes_before_kinds bytes in
    let y = ap length d in
    let z : length bytes ≡ sizes_before_kinds + n + n = omega arith in
    record {
      good = not_bad bytes h e b z f (omega arith);
      entry = i ∙ f;
      row = rw (← e) (row_read bytes n z d k t);
      cursor = c;
    }

-- the entry that is asked for
module _ {ks ls : List ℕ} (u : length ks ≡ program_slots) (v : length ls ≡ program_slots) {r : Parsed} {ks' ls' : List ℕ} where
  sized :
      (R : Row) (c : ℕ) (m : Rule Nodes ℕ) (q : Rule (Unit {0}) Tree) →
      Promise (length R.kinds) (input_check R c (length ks) (length ls) 0) m q c (nodes ks ls 0) r ks' ls' →
      Parses (checked (input_check R c program_slots program_slots 0) m) c ks ls r ks' ls'
  sized R c m q p =
      let G : ℕ → ℕ → Type 0 = λ a b. Gives (checked (input_check R c a b 0) m) c (nodes ks ls 0) r ks' ls' in
      let a = p.frame.fits (omega arith) in
      let b = p.frame.kinds_kept in
      let d = p.frame.loads_kept in
      record {
        gives = subst (λ (a : ℕ). G a program_slots) u (subst (λ (b : ℕ). G (length ks) b) v p.equal);
        fits = record { count = omega arith; kinds = b ∙ u; loads = d ∙ v };
      }

  module _ (R : Row) (c : ℕ) where
    pub expression-asked :
        {e : ℕ} → (e ≡ 1 → ⊥) → Expression' R c (nodes ks ls 0) r ks' ls' → Parses (asking R c e) c ks ls r ks' ls'
    unfolding asking
    expression-asked i p =
        rw (ne_eqb _ _ i) (sized R c (expression columns R Limit.Nesting) (expression trees R Limit.Nesting) p)

    module _ {entry : Entry} where
      pub type-asked :
          entry ≡ «Type» → Type' R c (nodes ks ls 0) r ks' ls' → Parses (asking R c (number_of entry)) c ks ls r ks' ls'
      unfolding asking
      type-asked i p = rw i (sized R c (type columns R Limit.Nesting) (type trees R Limit.Nesting) p)

      pub expression-entry :
          entry ≡ Expression → Expression' R c (nodes ks ls 0) r ks' ls' →
          Parses (asking R c (number_of entry)) c ks ls r ks' ls'
      expression-entry i p = rw i (expression-asked {e = 0} (λ q. omega arith) p)

-- the reply and the nodes
pub parse-put :
    (ks ls : List ℕ) (r : Parsed) {n : ℕ} {x y z : TextBuffer} → n ≡ count_of r → Adds x (reply r) y →
    Adds y (lines (nodes ks ls n) n) z → Adds x (parse r (nodes ks ls (count_of r))) z
parse-put ks ls r e f g = rw (← e) (then f g)

pub nodes-room :
    (r : Parsed) {ks ls : List ℕ} → Fits r ks ls → {n : ℕ} → n ≡ count_of r → {xs ys : List ℕ} {at end : ℕ} →
    Puts xs at (reply r) ys end → Room xs at (64 + 33 * program_slots) → Room ys end (33 * n)
nodes-room r f e p h =
    let a = f.count in
    let b = reply-short r in
    let c = p.size in
    let d = p.place in
    let g = h.there in
    record { there = omega arith }

-- the output and the columns, by whether the file is bad
module _ (bytes : List ℕ) {xs ys : List ℕ} {end : ℕ} where
  pub bad-answered :
      (s : Nodes) → bad bytes ≡ true → Puts xs 0 bad_file ys end → Answers bytes s xs ys end s.kinds s.loads
  unfolding output columns_after
  bad-answered s e p = record { text = rw e p; kinds = rw e refl; loads = rw e refl }

  pub parse-answered :
      (s : Nodes) → bad bytes ≡ false → (r : Parsed) {ks ls : List ℕ} → Gives (asked bytes) (cursor_in bytes) s r ks ls →
      Puts xs 0 (parse r (nodes ks ls (count_of r))) ys end → Answers bytes s xs ys end ks ls
  unfolding output columns_after
  parse-answered s e r {ks} {ls} d p =
      let o = asked bytes (cursor_in bytes) s in
      let c : count_of (answer parsed o.result o.cursor o.state.count) ≡ o.state.count =
      counted o.result _ _ in
      let t : parse r (nodes ks ls (count_of r)) ≡ shown o = rw (d.reply, d.kinds, d.loads, c) refl in
      record {
        text = rw e (subst (λ (u : List ℕ). Puts xs 0 u ys end) t p);
        kinds = rw e d.kinds;
        loads = rw e d.loads;
      }

  -- the same, by the question of the input
  pub question-answered :
      (s : Nodes) {question : Question} → Asks bytes question → (r : Parsed) {ks ls : List ℕ} →
      Gives (rule_of question) question.cursor.0 s r ks ls →
      Puts xs 0 (parse r (nodes ks ls (count_of r))) ys end → Answers bytes s xs ys end ks ls
  question-answered s a r g p = parse-answered s a.good r (rw (a.row, a.cursor, a.entry) at g) p
