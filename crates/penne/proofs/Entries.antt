-- The promise of each entry, with columns and with words, by whether its check passed.
use mathlib.Core.Path.{◌≡◌, refl, sym, ◌∙◌, ap, subst}
use mathlib.Core.List.{List, map}
use mathlib.Core.Logic.{inl, inr}
use Prim.Native.Nat.{ℕ, ◌≤◌}
use native.Mathlib.Omega.{arith}
use lib.ListN.{length, length-map, get_or-map}
use Rattle.std.specs.Prelude.{Ok, Err, IsErrAnd}
use Rattle.codes.specs.declared.ParsingError.{ParsingError}
use Rattle.codes.specs.Answer.{ParseResult, count_of, nodes, row}
use Rattle.codes.specs.Words as Core
use Rattle.checks.specs.Answer.{Checked, check_of}
use Rattle.checks.specs.Checks.{Check, input_check, declaration_check, word_declaration_check}
use Rattle.penne.specs.Answer.{Splits, Split, passed}
use Rattle.penne.specs.Promise.{Parsed, Promise}
use Rattle.penne.specs.Words.{Unpacked}
use Rattle.rules.specs.Codes.Limit as Limit
use Rattle.rules.specs.Reading.{Rule}
use Rattle.rules.specs.Trees.{Tree, trees}
use Rattle.rules.specs.Columns.{Nodes, columns}
use Rattle.rules.specs.Words.{Words, words as in_words, word_kind, word_load, Alongside, Agrees}
use Rattle.rules.specs.Types.{type}
use Rattle.rules.specs.Expressions.{expression}
use Rattle.rules.specs.Declarations.{constant, struct, word}
use Rattle.rules.specs.Demand as Demand
use Rattle.rules.proofs.Demand.{types, expressions, constants, structs, words}
use Rattle.rules.proofs.Demand.{type-agrees, expression-agrees, constant-agrees, struct-agrees, word-agrees}
use Rattle.checks.proofs.Laws.{Entered, declaration-entered, input-entered, word-entered, words-check}
use Rattle.checks.proofs.Laws.{Listed, input-listed, declaration-listed, word-listed}
use Rattle.penne.proofs.Promises.{check-passed, check-refused}
use Rattle.penne.proofs.Promises.{columns-given, others, replied-fits, rule-followed, same-slots}

-- What is proved of an entry over this row and from this cursor: of its check E, by the slots of both columns and the
-- count, and of its rule with columns m, with trees q and with words v.
pub record Entry (tk tv : List ℕ) (c : ℕ) (E : ℕ → ℕ → ℕ → Check) (m : Rule Nodes ℕ) (q : Rule (Unit {0}) Tree)
    (v : Rule Words ℕ) : Type 0 where
  pub demand : Demand.Demand (row tk tv) m q
  pub agrees : Agrees m v
  pub listed : (slots loads count : ℕ) → Listed (E slots loads count)
  pub entered :
      {ns ls : List ℕ} {k : ℕ} {t : Checked} {u : Unit {0}} → t ≡ Ok u → check_of t ≡ E (length ns) (length ls) k →
      Entered tk tv c (nodes ns ls k)

module _ (tk tv : List ℕ) (c : ℕ) where
  pub expression-entry :
      Entry tk tv c (input_check (row tk tv) c) (expression columns (row tk tv) Limit.Nesting)
      (expression trees (row tk tv) Limit.Nesting) (expression in_words (row tk tv) Limit.Nesting)
  expression-entry = record {
    demand = expressions _ _;
    agrees = expression-agrees _ _;
    listed = input-listed (row tk tv) c;
    entered = input-entered;
  }

  pub type-entry :
      Entry tk tv c (input_check (row tk tv) c) (type columns (row tk tv) Limit.Nesting)
      (type trees (row tk tv) Limit.Nesting) (type in_words (row tk tv) Limit.Nesting)
  type-entry = record {
    demand = types _ _;
    agrees = type-agrees _ _;
    listed = input-listed (row tk tv) c;
    entered = input-entered;
  }

  module _ (start flags : ℕ) where
    abbrev declaring : ℕ → ℕ → ℕ → Check
    declaring slots loads count = declaration_check (row tk tv) c slots loads count start flags

    pub constant-entry :
        Entry tk tv c declaring (constant columns (row tk tv) Limit.Nesting start flags)
        (constant trees (row tk tv) Limit.Nesting start flags) (constant in_words (row tk tv) Limit.Nesting start flags)
    constant-entry = record {
      demand = constants _ _ _ _;
      agrees = constant-agrees _ _ _ _;
      listed = declaration-listed (row tk tv) c start flags;
      entered = λ g f. (declaration-entered g start flags f).0;
    }

    pub struct-entry :
        Entry tk tv c declaring (struct columns (row tk tv) Limit.Nesting start flags)
        (struct trees (row tk tv) Limit.Nesting start flags) (struct in_words (row tk tv) Limit.Nesting start flags)
    struct-entry = record {
      demand = structs _ _ _ _;
      agrees = struct-agrees _ _ _ _;
      listed = declaration-listed (row tk tv) c start flags;
      entered = λ g f. (declaration-entered g start flags f).0;
    }

    pub word-entry :
        (kind : ℕ) →
        Entry tk tv c (λ slots loads count. word_declaration_check (row tk tv) c slots loads count start flags kind)
        (word columns (row tk tv) Limit.Nesting start flags kind)
        (word trees (row tk tv) Limit.Nesting start flags kind)
        (word in_words (row tk tv) Limit.Nesting start flags kind)
    word-entry kind = record {
      demand = words _ _ _ _ _;
      agrees = word-agrees _ _ _ _ _;
      listed = word-listed (row tk tv) c start flags kind;
      entered = λ g f. (word-entered g start flags kind f).0;
    }

-- the promise of an entry, by the answers of its check and of its reader
module _ {tk tv : List ℕ} {c : ℕ} {E : ℕ → ℕ → ℕ → Check} {m : Rule Nodes ℕ} {q : Rule (Unit {0}) Tree}
    {v : Rule Words ℕ} (y : Entry tk tv c E m q v) (k : ℕ) (t : Checked) {p : ParseResult (Unit {0})}
    (g : p ≡ passed t c k) where
  -- over columns, whose loads were the words and were split
  module _ (ns ls : List ℕ) (f : check_of t ≡ E (length ns) (length ls) k) where
    pub refused :
        {w : ParsingError} → p ≡ Err w → {r : Parsed} → IsErrAnd r (λ d. d ≡ w) →
        Promise (length tk) (E (length ns) (length ls) k) m q c (nodes ns ls k) r ns ls
    refused h i = check-refused (y.listed _ _ k) t c k f g h i

    module _ {u : Unit {0}} (h : p ≡ Ok u) where
      enters : Entered tk tv c (nodes ns ls k)
      enters = y.entered (check-passed t c k g h) f

      pub sized : Core.Sized tk tv ls c k
      sized = enters.sized

      module _ {r : Parsed} {ws : List ℕ} (d : Core.Gives v c (Core.nodes ls k) r ws) {n : ℕ} (e : n ≡ count_of r) where
        over : Alongside (nodes ns ls k) (Core.nodes ls k)
        over = record { count = refl; size = enters.even; even = enters.even }

        same_size : length ws ≡ length ns
        same_size = same-slots y.demand c _ enters y.agrees _ over d

        pub splits : Splits k n ns ws
        splits =
            let (a, b) = replied-fits y.demand c _ enters y.agrees _ over d in
            record { even = same_size; order = omega arith; fits = omega arith }

        pub followed :
            {ks' ls' : List ℕ} → Split k n ns ws ks' ls' →
            Promise (length tk) (E (length ns) (length ls) k) m q c (nodes ns ls k) r ks' ls'
        followed {ks'} {ls'} s =
            let x = subst (λ n. Split k n ns ws ks' ls') e s in
            let other = others y.demand c _ enters y.agrees _ over d in
            rule-followed y.demand c _ enters
            (columns-given y.demand c _ enters y.agrees _ over d ks' ls' x.kinds (x.loads ∙ same_size) x.within
            (λ i h. elim h [
              | inl a ↦ ((x.below i a).0, (x.below i a).1 ∙ other i (inl a))
              | inr a ↦ ((x.above i a).0, (x.above i a).1 ∙ other i (inr a))
            ]))
            f (check-passed t c k g h)

  -- over words
  module _ (ws : List ℕ) (f : check_of t ≡ E (length ws) (length ws) k) where
    pub words-refused :
        {w : ParsingError} → p ≡ Err w → {r : Parsed} → IsErrAnd r (λ d. d ≡ w) →
        Unpacked (λ o. Promise (length tk) (E (length o.kinds) (length o.loads) o.count) m q c o) ws k r ws
    words-refused h i = check-refused (y.listed _ _ k) t c k (words-check E ws k f) g h i

    module _ {u : Unit {0}} (h : p ≡ Ok u) where
      pub words-sized : Core.Sized tk tv ws c k
      words-sized = sized ws ws f h

      enters-unpacked : Entered tk tv c (nodes (map word_kind ws) (map word_load ws) k)
      enters-unpacked = y.entered (check-passed t c k g h) (words-check E ws k f)

      under : Alongside (nodes (map word_kind ws) (map word_load ws) k) (Core.nodes ws k)
      under = record {
        count = refl;
        size = sym (length-map ws word_kind);
        even = length-map ws word_load ∙ sym (length-map ws word_kind);
      }

      pub words-followed :
          {r : Parsed} {ws' : List ℕ} → Core.Gives v c (Core.nodes ws k) r ws' →
          Unpacked (λ o. Promise (length tk) (E (length o.kinds) (length o.loads) o.count) m q c o) ws k r ws'
      words-followed {ws' = ws'} d =
          let l = same-slots y.demand c _ enters-unpacked y.agrees _ under d in
          rule-followed y.demand c _ enters-unpacked
          (columns-given y.demand c _ enters-unpacked y.agrees _ under d (map word_kind ws') (map word_load ws')
          (length-map ws' word_kind ∙ l) (length-map ws' word_load ∙ l)
          (λ i _ _. (get_or-map word_kind ws' i 0, get_or-map word_load ws' i 0))
          (λ i h. let e = others y.demand c _ enters-unpacked y.agrees _ under d i h in (
            get_or-map word_kind ws' i 0 ∙ ap word_kind e ∙ sym (get_or-map word_kind ws i 0),
            get_or-map word_load ws' i 0 ∙ ap word_load e ∙ sym (get_or-map word_load ws i 0),
          )))
          (words-check E ws k f) (check-passed t c k g h)

-- a declaration's start and its flags fit a load
abbrev Fits : ℕ → ℕ → Type 0
Fits start flags = record { start_in : start ≤ Limit.Load; flags_in : flags ≤ Limit.Load }

module _ (tk tv : List ℕ) (c k : ℕ) (t : Checked) {p : ParseResult (Unit {0})} (g : p ≡ passed t c k)
    (ns ls : List ℕ) (start flags : ℕ) where
  pub declaration-fits :
      check_of t ≡ declaration_check (row tk tv) c (length ns) (length ls) k start flags → {u : Unit {0}} → p ≡ Ok u →
      Fits start flags
  declaration-fits f h =
      let (e, a, b) = declaration-entered {tk = tk} {tv = tv} {ns = ns} (check-passed t c k g h) start flags f in
      record { start_in = omega (arith, e.sized.tokens); flags_in = omega arith }

  pub word-fits :
      (kind : ℕ) → check_of t ≡ word_declaration_check (row tk tv) c (length ns) (length ls) k start flags kind →
      {u : Unit {0}} → p ≡ Ok u → Fits start flags
  word-fits kind f h =
      let (e, a, b) = word-entered {tk = tk} {tv = tv} {ns = ns} (check-passed t c k g h) start flags kind f in
      record { start_in = omega (arith, e.sized.tokens); flags_in = omega arith }
