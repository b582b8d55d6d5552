-- When two loops agree.
use Prim.Native.Nat.{ℕ, zero, suc, ◌≤◌}
use native.Mathlib.Nat.{not-suc-le-zero, le_of_suc-le-suc}
use mathlib.Core.Logic.{inl}
use Rattle.rules.specs.Reading.{Rule, refuse, Step, again, done, onward, repeat}
use Rattle.rules.proofs.Sim.{Relation, Known, Sim, ◌then◌, gives}

-- the end of a round in both: Q where another follows, and R where it was the last
abbrev pub Stepped :
    {S S' A B C D : Type 0} → (A → B → Known S S') → (C → D → Known S S') → Step A C → Step B D → Known S S'
Stepped Q R (again a) (again b) c s s' = Q a b c s s'
Stepped Q R (again a) (done b) c s s' = ⊥
Stepped Q R (done a) (again b) c s s' = ⊥
Stepped Q R (done a) (done b) c s s' = R a b c s s'

module _ {S S' : Type 0} {rel : Relation S S'} {A B C D : Type 0}
    {Q : A → B → Known S S'} {R : C → D → Known S S'} where
  onward-sim :
      {k : A → Rule S C} {k' : B → Rule S' D} → ((a : A) (b : B) → Sim rel (Q a b) R (k a) (k' b)) →
      (r : Step A C) (r' : Step B D) → Sim rel (Stepped Q R r r') R (onward r k) (onward r' k')
  onward-sim g (again a) (again b) = g a b
  onward-sim g (again a) (done b) = record { run = λ c c' s s' e k p. absurd p }
  onward-sim g (done a) (again b) = record { run = λ c c' s s' e k p. absurd p }
  onward-sim g (done a) (done b) = gives (λ c s s' p. p)

  -- as many rounds in both
  pub repeat-sim :
      {f : A → Rule S (Step A C)} {f' : B → Rule S' (Step B D)} {over : Rule S C} {over' : Rule S' D} →
      ((a : A) (b : B) → Sim rel (Q a b) (Stepped Q R) (f a) (f' b)) →
      ((a : A) (b : B) → Sim rel (Q a b) R over over') →
      (n : ℕ) (a : A) (b : B) → Sim rel (Q a b) R (repeat f over n a) (repeat f' over' n b)
  unfolding repeat
  repeat-sim h e zero a b = e a b
  repeat-sim h e (suc n) a b = h a b then λ r r'. onward-sim (repeat-sim h e n) r r'

  -- The right loop has at least as many rounds. That the left one runs out of them is excused: it never does, which is
  -- shown of one reading by itself.
  pub rounds-sim :
      {f : A → Rule S (Step A C)} {f' : B → Rule S' (Step B D)} (x y z : ℕ) (over' : Rule S' D) →
      ((c : ℕ) (s : S) (s' : S') → rel.States s s' → rel.Excused x c s) →
      ((a : A) (b : B) → Sim rel (Q a b) (Stepped Q R) (f a) (f' b)) →
      (n n' : ℕ) → n ≤ n' → (a : A) (b : B) → Sim rel (Q a b) R (repeat f (refuse x y z) n a) (repeat f' over' n' b)
  unfolding repeat
  rounds-sim x y z over' e h zero n' l a b = record { run = λ c c' s s' d k p. inl (e c s s' k) }
  rounds-sim x y z over' e h (suc n) zero l a b = absurd (not-suc-le-zero l)
  rounds-sim x y z over' e h (suc n) (suc n') l a b =
      h a b then λ r r'. onward-sim (rounds-sim x y z over' e h n n' (le_of_suc-le-suc l)) r r'
