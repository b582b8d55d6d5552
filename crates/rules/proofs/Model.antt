-- What is asked of two rows and of two builders, so that every rule agrees with itself over them (see Sim).
--
-- `Rows` is asked of the rows: where cursors belong together, the same token stands in both, and the cursors after it
-- belong together too. `Model` is asked of the builders: each of their operations, done by both, keeps what the model
-- knows of the two states.
--
-- What a model knows is `At x ts F`. The nodes ts were appended last, the last one first, and F is whatever else stands
-- in the states. A rule never looks at F; it can only lay a node or an open list aside there and take it up again. x is
-- a credit: so many nodes may yet be appended. A token taken pays for five nodes and an append costs one, so a rule is
-- shown to agree only if it appends at most five nodes a token. A model with no use for that lets `At` ignore x.
use Prim.Native.Nat.{ℕ, zero, suc, ◌+◌, ◌≤◌, ◌<◌}
use mathlib.Core.Bool.{Bool, true, false}
use mathlib.Core.Logic.{◌≢◌}
use mathlib.Core.Path.{◌≡◌, refl, ap}
use mathlib.Core.List.{List, [], ◌∷◌, map}
use lib.ListN.{length}
use lib.Dec.{ltb}
use native.Mathlib.Omega.{arith}
use Rattle.rules.specs.Codes.{Part, back, linked, parts_of, holds_token}
use Rattle.rules.specs.Codes.Refusal as Refusal
use Rattle.rules.specs.Reading.{Row, kind_of, type_of}
use Rattle.rules.specs.Builder.{Builder}
use Rattle.rules.specs.Columns.{Nodes}
use Rattle.rules.specs.Places.{Placed}
use Rattle.rules.proofs.Sim.{Relation, Known, Sim, Via}

-- What is asked of two rows.
pub record Rows {S S' : Type 0} (rel : Relation S S') (row row' : Row) : Type 0 where
  -- at cursors that belong together stand the same kind and value type
  pub kinds : (c c' : ℕ) → rel.Cursors c c' → kind_of row c ≡ kind_of row' c'
  pub types : (c c' : ℕ) → rel.Cursors c c' → type_of row c ≡ type_of row' c'
  -- the cursors after a token belong together too
  pub next : (c c' : ℕ) → rel.Cursors c c' → rel.Cursors (c + 1) (c' + 1)
  -- what is longer than a token in one row is so in the other
  pub longer : (a a' b b' : ℕ) → rel.Cursors a a' → rel.Cursors b b' → ltb (a + 1) b ≡ ltb (a' + 1) b'
  -- loops have at most as many rounds in the left row, and that they run out is excused
  pub rounds : length row.kinds ≤ length row'.kinds
  pub over : (c : ℕ) (s : S) (s' : S') → rel.States s s' → rel.Excused Refusal.OutOfRounds c s

-- one row, read twice
pub one-row :
    {S S' : Type 0} (States : S → S' → Type 0) (Excused : ℕ → ℕ → S → Type 0)
    (Shared : ℕ → ℕ → ℕ → ℕ → S → Type 0) (row : Row) →
    ((c : ℕ) (s : S) (s' : S') → States s s' → Excused Refusal.OutOfRounds c s) →
    Rows (record { Cursors = λ c c'. c ≡ c'; States = States; Excused = Excused; Shared = Shared }) row row
one-row States Excused Shared row h = record {
  kinds = λ c c' e. rw e refl;
  types = λ c c' e. rw e refl;
  next = λ c c' e. rw e refl;
  longer = λ a a' b b' e d. rw (e, d) refl;
  rounds = omega arith;
  over = h;
}

-- Loads that belong together: token numbers whose cursors do, and any other loads that are equal.
abbrev Loads : (ℕ → ℕ → Type 0) → Bool → ℕ → ℕ → Type 0
Loads Cursors true l l' = Cursors l l'
Loads Cursors false l l' = l ≡ l'

-- the loads of a node of this kind belong together
abbrev pub Loaded : {S S' : Type 0} → Relation S S' → ℕ → ℕ → ℕ → Type 0
Loaded rel kind l l' = Loads rel.Cursors (holds_token kind) l l'

-- where a token has one number in both rows, so do loads
pub equal :
    {S S' : Type 0} (rel : Relation S S') (kind l l' : ℕ) →
    (rel.Cursors l l' → l ≡ l') → Loaded rel kind l l' → l ≡ l'
equal rel kind l l' f h = go (holds_token kind) h
  where
    go : (b : Bool) → Loads rel.Cursors b l l' → l ≡ l'
    go true h = f h
    go false h = h

-- nodes of this kind have these parts, and the kind fits a byte
abbrev pub Kind : ℕ → List Part → Type 0
Kind kind parts = ◌≡◌ {A = List Part × Bool} (parts_of kind, ltb kind 256) (parts, true)

pub parts-of : (kind : ℕ) {parts : List Part} → Kind kind parts → parts_of kind ≡ parts
parts-of kind e = ap {A = List Part × Bool} (λ p. p.0) e

pub fits_byte : (kind : ℕ) {parts : List Part} → Kind kind parts → ltb kind 256 ≡ true
fits_byte kind e = ap {A = List Part × Bool} (λ p. p.1) e

-- parts i, i + 1 .. back, one for each
abbrev pub backs : {N : Type 0} → ℕ → List N → List Part
backs i [] = []
backs i (t ∷ ts) = back i ∷ backs (suc i) ts

-- A credit of k nodes more. With a literal k it computes, as `k + x` does not.
abbrev pub plus : ℕ → ℕ → ℕ
plus zero x = x
plus (suc k) x = suc (plus k x)

-- A refusal in the parse, by number, start, end and cursor, has a number of the list and its place, whatever was given
-- and whatever is built; but for a loop that ran out, or an expected kind without a number, both of which are 0.
abbrev pub Placing : ℕ → ℕ → ℕ → ℕ → Type 0
Placing n x y c = n ≢ Refusal.OutOfRounds → (given : ℕ) (o : Nodes) (count : ℕ) → Placed given o n x y c count

-- What is asked of two builders.
pub record Model (B B' : Builder) (rel : Relation B.S B'.S) : Type 1 where
  -- a node that both have, with its form in each, and an open list likewise
  pub N : Type 0
  pub nodeˡ : N → B.N
  pub nodeʳ : N → B'.N
  pub L : Type 0
  pub listˡ : L → B.L
  pub listʳ : L → B'.L
  -- what else stands in the states, with a node and with an open list laid aside
  pub Besides : Type 0
  pub held : N → Besides → Besides
  pub opened : L → Besides → Besides
  -- what is known: see above
  pub At : ℕ → List N → Besides → Known B.S B'.S
  -- a token that is taken pays for five nodes
  pub paid :
      (x : ℕ) (ts : List N) (F : Besides) (c c' : ℕ) (s : B.S) (s' : B'.S) → c < c' →
      At x ts F c s s' → At (plus 5 x) ts F c' s s'
  -- credit need not be used
  pub less :
      (x : ℕ) (ts : List N) (F : Besides) (c : ℕ) (s : B.S) (s' : B'.S) → At (suc x) ts F c s s' → At x ts F c s s'
  -- the node that was appended last is laid aside
  pub aside :
      (x : ℕ) (t : N) (F : Besides) (c : ℕ) (s : B.S) (s' : B'.S) →
      At x (t ∷ []) F c s s' → At x [] (held t F) c s s'
  -- any refusal but the one for want of a slot can be shared
  pub shared : (n x y c : ℕ) (s : B.S) → Placing n x y c → rel.Shared n x y c s
  -- a node is appended whose parts are the nodes just before it
  pub node :
      (x : ℕ) (ts : List N) (F : Besides) (k l l' : ℕ) → Kind k (backs 1 ts) → Loaded rel k l l' →
      Sim rel (At (suc x) ts F) (Via nodeˡ nodeʳ (λ t. At x (t ∷ []) F))
      (B.node k l (map nodeˡ ts)) (B'.node k l' (map nodeʳ ts))
  -- a node without parts is appended
  pub leaf :
      (x : ℕ) (ts : List N) (F : Besides) (k l l' : ℕ) → Kind k [] → Loaded rel k l l' →
      Sim rel (At (suc x) ts F) (Via nodeˡ nodeʳ (λ t. At x (t ∷ ts) F)) (B.node k l []) (B'.node k l' [])
  -- a node is appended that links to one laid aside
  pub link :
      (x : ℕ) (ts : List N) (F : Besides) (k : ℕ) (u : N) → Kind k (linked ∷ []) →
      Sim rel (At (suc x) ts (held u F)) (Via nodeˡ nodeʳ (λ t. At x (t ∷ ts) F))
      (B.link k (nodeˡ u)) (B'.link k (nodeʳ u))
  -- a list begins, gets the node that was appended last as an item, and ends
  pub begin :
      (x : ℕ) (F : Besides) (c : ℕ) (s : B.S) (s' : B'.S) → At x [] F c s s' →
      Via listˡ listʳ (λ l. At x [] (opened l F)) B.begin B'.begin c s s'
  pub item :
      (x : ℕ) (F : Besides) (l : L) (t : N) →
      Sim rel (At (suc x) (t ∷ []) (opened l F)) (Via listˡ listʳ (λ m. At x [] (opened m F)))
      (B.item (listˡ l) (nodeˡ t)) (B'.item (listʳ l) (nodeʳ t))
  pub close :
      (x : ℕ) (F : Besides) (l : L) →
      Sim rel (At (suc x) [] (opened l F)) (Via nodeˡ nodeʳ (λ t. At x [] (held t F)))
      (B.close (listˡ l)) (B'.close (listʳ l))
