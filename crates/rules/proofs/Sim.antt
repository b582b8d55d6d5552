-- When two rules agree, each over its own row and state: a simulation of the left one by the right one.
--
-- A theorem on two readings, as demand 3 is one on the columns and the trees, is an instance of one proof over all rules:
-- - `Relation`, below, says how the two readings are related: which cursors belong together, what is true of both
--   states throughout, and what is known of refusals.
-- - `Rows` and `Model`, in Model, are what is asked of the two rows and of the two builders.
-- - Types, Expressions and Declarations, with the files that they use, show from these two alone that every rule agrees
--   with itself. They say nothing of columns or trees.
-- So a new theorem is a relation, with its `Rows` and its `Model`; `type-rule`, `expression-rule`, `constant-rule`,
-- `struct-rule` and `word-rule` then give what it says of the five rules. A new reading rule gets its agreement in one
-- of these files, a line for each of its steps, and every theorem holds of it too. Beside is the instance of demand 3,
-- and Words that of words beside columns, which also shows the place of each refusal (`Shared`).
--
-- `Sim` is the agreement. The laws of this file make the agreement of a rule from that of the rules it is made of.
use Prim.Native.Nat.{ℕ}
use mathlib.Core.Bool.{Bool, true, false}
use mathlib.Core.Logic.{◌⊎◌, inl, inr}
use mathlib.Core.Path.{◌≡◌, refl}
use mathlib.Core.List.{List, [], ◌∷◌}
use lib.Dec.{eqb}
use Rattle.rules.specs.Codes.{pick}
use Rattle.rules.specs.Reading.{Rule, Result, ok, no, next, ◌>>=◌, pure, refuse, choose}

infixr 20 ◌then◌
infixr 20 ◌same◌
infixr 20 ◌for◌
infixr 20 ◌or◌
-- How two readings, with states in S and in S', are related.
pub record Relation (S S' : Type 0) : Type 1 where
  -- the two cursors belong together
  pub Cursors : ℕ → ℕ → Type 0
  -- what is true of both states from the start to the end
  pub States : S → S' → Type 0
  -- a refusal of the left reading, by number, cursor and state, that the right one need not share
  pub Excused : ℕ → ℕ → S → Type 0
  -- what is true of a refusal that both give, by the left one's number, start, end, cursor and state
  pub Shared : ℕ → ℕ → ℕ → ℕ → S → Type 0

-- what is known of both states, and of the left cursor, between two steps
abbrev pub Known : Type 0 → Type 0 → Type 1
Known S S' = ℕ → S → S' → Type 0

-- a token's number in both rows
pub record Token {S S' : Type 0} (rel : Relation S S') : Type 0 where
  pub left : ℕ
  pub right : ℕ
  pub both : rel.Cursors left right

-- the right reading refuses with the same number, at the same tokens
pub record Refused {S S' : Type 0} (rel : Relation S S') {B : Type 0}
    (x y z c : ℕ) (s : S) (r : Result B) (c' : ℕ) (s' : S') : Type 0 where
  pub start : ℕ
  pub end : ℕ
  pub reply : r ≡ no x start end
  pub shared : rel.Shared x y z c s
  pub starts : rel.Cursors y start
  pub ends : rel.Cursors z end
  pub cursor : rel.Cursors c c'
  pub states : rel.States s s'

module _ {S S' : Type 0} (rel : Relation S S') {A B : Type 0} where
  -- Q holds of what both read, or both refuse alike, or the left one's refusal is excused
  abbrev pub Both : (A → B → Known S S') → Result A → ℕ → S → Result B → ℕ → S' → Type 0
  Both Q (ok a) c s (ok b) c' s' = rel.Cursors c c' × rel.States s s' × Q a b c s s'
  Both Q (ok a) c s (no x y z) c' s' = ⊥
  Both Q (no x y z) c s r c' s' = rel.Excused x c s ⊎ Refused rel x y z c s r c' s'

  -- The two rules agree: where P is known at the start, both read something of which Q is known at the end, or refuse.
  pub record Sim (P : Known S S') (Q : A → B → Known S S') (m : Rule S A) (m' : Rule S' B) : Type 0 where
    pub run :
        (c c' : ℕ) (s : S) (s' : S') → rel.Cursors c c' → rel.States s s' → P c s s' →
        Both Q (m c s).result (m c s).cursor (m c s).state (m' c' s').result (m' c' s').cursor (m' c' s').state

module _ {S S' : Type 0} {rel : Relation S S'} {A B C D : Type 0}
    {Q : A → B → Known S S'} {R : C → D → Known S S'} {f : A → Rule S C} {f' : B → Rule S' D} where
  both-next :
      ((a : A) (b : B) → Sim rel (Q a b) R (f a) (f' b)) →
      (r : Result A) (c : ℕ) (s : S) (r' : Result B) (c' : ℕ) (s' : S') → Both rel Q r c s r' c' s' →
      Both rel R (next r c s f).result (next r c s f).cursor (next r c s f).state
      (next r' c' s' f').result (next r' c' s' f').cursor (next r' c' s' f').state
  both-next g (ok a) c s (ok b) c' s' h = (g a b).run c c' s s' h.0 h.1 h.2
  both-next g (ok a) c s (no x y z) c' s' h = absurd h
  both-next g (no x y z) c s r' c' s' h = elim h [
    | inl e ↦ inl e
    | inr e ↦ inr (rw e.reply (record {
      start = e.start;
      end = e.end;
      reply = refl;
      shared = e.shared;
      starts = e.starts;
      ends = e.ends;
      cursor = e.cursor;
      states = e.states;
    }))
  ]

  -- two rules, and then those that are made of what they read
  pub ◌then◌ :
      {P : Known S S'} {m : Rule S A} {m' : Rule S' B} →
      Sim rel P Q m m' → ((a : A) (b : B) → Sim rel (Q a b) R (f a) (f' b)) → Sim rel P R (m >>= f) (m' >>= f')
  unfolding ◌>>=◌
  ◌then◌ {P} {m} {m'} h g = record {
    run = λ c c' s s' e k p.
        both-next g (m c s).result (m c s).cursor (m c s).state (m' c' s').result (m' c' s').cursor
        (m' c' s').state (h.run c c' s s' e k p);
  }

-- Both read the same, of which T holds, and P is known.
abbrev pub Alike : {S S' A : Type 0} → (A → Type 0) → Known S S' → A → A → Known S S'
Alike T P a b c s s' = (a ≡ b) × T a × P c s s'

abbrev pub Any : {A : Type 0} → A → Type 0
Any a = Unit {0}

module _ {S S' : Type 0} {rel : Relation S S'} {A C D : Type 0} {T : A → Type 0}
    {Q : Known S S'} {R : C → D → Known S S'} {f : A → Rule S C} {f' : A → Rule S' D} where
  pub alike : ((a : A) → T a → Sim rel Q R (f a) (f' a)) → (a b : A) → Sim rel (Alike T Q a b) R (f a) (f' b)
  alike g a b = record { run = λ c c' s s' e k q. rw (← q.0) ((g a q.1).run c c' s s' e k q.2) }

  pub ◌same◌ :
      {P : Known S S'} {m : Rule S A} {m' : Rule S' A} →
      Sim rel P (Alike T Q) m m' → ((a : A) → T a → Sim rel Q R (f a) (f' a)) → Sim rel P R (m >>= f) (m' >>= f')
  ◌same◌ h g = h then alike g

-- What the two read is what α and β make of one thing (a node by its two forms, say), of which G is known.
abbrev pub Via : {S S' I A B : Type 0} → (I → A) → (I → B) → (I → Known S S') → A → B → Known S S'
Via {I = I} α β G a b c s s' = (i : I) × (α i ≡ a) × (β i ≡ b) × G i c s s'

-- Rules made of what was read agree, whatever that one thing is. It is a record so that the checker finds f and f'.
pub record Each {S S' : Type 0} (rel : Relation S S') {I A B C D : Type 0} (α : I → A) (β : I → B)
    (G : I → Known S S') (R : C → D → Known S S') (f : A → Rule S C) (f' : B → Rule S' D) : Type 0 where
  pub agree : (i : I) → Sim rel (G i) R (f (α i)) (f' (β i))

module _ {S S' : Type 0} {rel : Relation S S'} {I A B C D : Type 0} {α : I → A} {β : I → B}
    {G : I → Known S S'} {R : C → D → Known S S'} {f : A → Rule S C} {f' : B → Rule S' D} where
  pub each : ((i : I) → Sim rel (G i) R (f (α i)) (f' (β i))) → Each rel α β G R f f'
  each g = record { agree = g }

  pub opens : Each rel α β G R f f' → (a : A) (b : B) → Sim rel (Via α β G a b) R (f a) (f' b)
  opens g a b = record {
    run = λ c c' s s' e k q. rw (← q.1, ← q.2) ((g.agree q.0).run c c' s s' e k q.3);
  }

  pub ◌for◌ :
      {P : Known S S'} {m : Rule S A} {m' : Rule S' B} →
      Sim rel P (Via α β G) m m' → Each rel α β G R f f' → Sim rel P R (m >>= f) (m' >>= f')
  ◌for◌ h g = h then opens g

module _ {S S' : Type 0} {rel : Relation S S'} {A B : Type 0} {P : Known S S'} {Q : A → B → Known S S'} where
  -- both read, and take no token
  pub gives : {a : A} {b : B} → ((c : ℕ) (s : S) (s' : S') → P c s s' → Q a b c s s') → Sim rel P Q (pure a) (pure b)
  gives h = record { run = λ c c' s s' e k p. (e, k, h c s s' p) }

  -- more is known at the start than is needed
  pub eased :
      {P' : Known S S'} {m : Rule S A} {m' : Rule S' B} →
      ((c : ℕ) (s : S) (s' : S') → P c s s' → P' c s s') → Sim rel P' Q m m' → Sim rel P Q m m'
  eased f h = record { run = λ c c' s s' e k p. h.run c c' s s' e k (f c s s' p) }

  -- more is known at the end than is said
  pub loosened :
      {Q' : A → B → Known S S'} {m : Rule S A} {m' : Rule S' B} →
      ((a : A) (b : B) (c : ℕ) (s : S) (s' : S') → Q a b c s s' → Q' a b c s s') →
      Sim rel P Q m m' → Sim rel P Q' m m'
  loosened {Q'} {m} {m'} f h = record {
    run = λ c c' s s' e k p.
        go (m c s).result (m c s).cursor (m c s).state (m' c' s').result (m' c' s').cursor (m' c' s').state
        (h.run c c' s s' e k p);
  }
    where
      go :
          (r : Result A) (c : ℕ) (s : S) (r' : Result B) (c' : ℕ) (s' : S') →
          Both rel Q r c s r' c' s' → Both rel Q' r c s r' c' s'
      go (ok a) c s (ok b) c' s' d = (d.0, d.1, f a b c s s' d.2)
      go (ok a) c s (no x y z) c' s' d = absurd d
      go (no x y z) c s r' c' s' d = d

  -- both refuse
  pub refuse-sim :
      {n : ℕ} (x y : Token rel) →
      ((c : ℕ) (s : S) (s' : S') → P c s s' → rel.Shared n x.left y.left c s) →
      Sim rel P Q (refuse n x.left y.left) (refuse n x.right y.right)
  refuse-sim x y h = record {
    run = λ c c' s s' e k p. inr (record {
      start = x.right;
      end = y.right;
      reply = refl;
      shared = h c s s' p;
      starts = x.both;
      ends = y.both;
      cursor = e;
      states = k;
    });
  }

  pub pick-sim :
      (b : Bool) {m n : Rule S A} {m' n' : Rule S' B} →
      Sim rel P Q m m' → Sim rel P Q n n' → Sim rel P Q (pick b m n) (pick b m' n')
  pick-sim true h g = h
  pick-sim false h g = g

-- two tables of rules with the same keys, from P, and a rule for any other key, from P'
pub data Cases {S S' : Type 0} (rel : Relation S S') {A B : Type 0} (P P' : Known S S') (Q : A → B → Known S S') :
    List (ℕ × Rule S A) → Rule S A → List (ℕ × Rule S' B) → Rule S' B → Type 0 where
  other : {d : Rule S A} {d' : Rule S' B} → Sim rel P' Q d d' → Cases rel P P' Q [] d [] d'
  ◌or◌ :
      {k : ℕ} {m d : Rule S A} {es : List (ℕ × Rule S A)} {m' d' : Rule S' B} {es' : List (ℕ × Rule S' B)} →
      Sim rel P Q m m' → Cases rel P P' Q es d es' d' → Cases rel P P' Q ((k, m) ∷ es) d ((k, m') ∷ es') d'

module _ {S S' : Type 0} {rel : Relation S S'} {A B : Type 0} {P P' : Known S S'} {Q : A → B → Known S S'} where
  -- P' may say more than P
  pub choose-from :
      ((c : ℕ) (s : S) (s' : S') → P' c s s' → P c s s') →
      (k : ℕ) {d : Rule S A} {es : List (ℕ × Rule S A)} {d' : Rule S' B} {es' : List (ℕ × Rule S' B)} →
      Cases rel P P' Q es d es' d' → Sim rel P' Q (choose k es d) (choose k es' d')
  unfolding choose
  choose-from f k (other h) = h
  choose-from f k (◌or◌ {k = j} h hs) = pick-sim (eqb k j) (eased f h) (choose-from f k hs)

module _ {S S' : Type 0} {rel : Relation S S'} {A B : Type 0} {P : Known S S'} {Q : A → B → Known S S'} where
  pub choose-sim :
      (k : ℕ) {d : Rule S A} {es : List (ℕ × Rule S A)} {d' : Rule S' B} {es' : List (ℕ × Rule S' B)} →
      Cases rel P P Q es d es' d' → Sim rel P Q (choose k es d) (choose k es' d')
  choose-sim = choose-from (λ c s s' p. p)
