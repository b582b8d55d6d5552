-- The rules for operators between operands and before one agree, over any two rows and builders of a model.
use Prim.Native.Nat.{ℕ}
use mathlib.Core.Path.{refl}
use mathlib.Core.List.{[], ◌∷◌}
use lib.Dec.{eqb}
use Rattle.rules.specs.Reading.{Row, pure, done}
use Rattle.rules.specs.Builder.{Builder}
use Rattle.rules.specs.Expressions.{Bitwise, token_of, op_of, Pending, first, joined, bitwise, shift}
use Rattle.rules.specs.Expressions.{binary, prefix, joined_to, operand_next}
use Rattle.rules.specs.Expressions.{next_factor, next_term, next_bit, follows, factor_end, term_end}
use Rattle.rules.proofs.Sim.{Relation, Known, Token, Sim, Via, other, ◌or◌, ◌same◌, ◌for◌, each, gives}
use Rattle.rules.proofs.Sim.{pick-sim, choose-sim}
use Rattle.rules.proofs.Rounds.{Stepped}
use Rattle.rules.proofs.Model.{Rows, Model, plus}
use Rattle.rules.proofs.Steps.{One, spare, stays, node-sim, leaf-sim, link-sim, here-sim, peek-sim, take-sim}

-- an operator between operands, with its token in both rows
pub data Operator (K : Type 0) : Type 0 where
  joins : ℕ → K → Operator K
  repeats : Bitwise → K → Operator K
  shifts : ℕ → K → Operator K

-- what the next operand is joined with: nothing, or a node and the operator after it
pub data Awaited (N K : Type 0) : Type 0 where
  opening : Awaited N K
  awaits : N → Operator K → Awaited N K

abbrev pending : {T N K : Type 0} → (T → N) → (K → ℕ) → Awaited T K → Pending N
pending f g opening = first
pending f g (awaits t (joins op at)) = joined (f t) op (g at)
pending f g (awaits t (repeats bit at)) = bitwise (f t) bit (g at)
pending f g (awaits t (shifts op at)) = shift (f t) op (g at)

module _ {B B' : Builder} {rel : Relation B.S B'.S} (M : Model B B' rel) where
  open M use {N, nodeˡ, nodeʳ, Besides, held, At, aside}

  abbrev pub pendingˡ : Awaited N (Token rel) → Pending B.N
  pendingˡ = pending nodeˡ (λ t. t.left)

  abbrev pub pendingʳ : Awaited N (Token rel) → Pending B'.N
  pendingʳ = pending nodeʳ (λ t. t.right)

  -- what stands left of the operator is laid aside
  abbrev pub waiting : Awaited N (Token rel) → Besides → Besides
  waiting opening F = F
  waiting (awaits t op) F = held t F

  -- the credit for the three nodes that join it, which the operator's token pays
  abbrev pub due : Awaited N (Token rel) → ℕ → ℕ
  due opening x = x
  due (awaits t op) x = plus 3 x

  -- what is read is an operand with the operator after it
  abbrev pub Awaits : ℕ → Besides → Pending B.N → Pending B'.N → Known B.S B'.S
  Awaits x F = Via pendingˡ pendingʳ (λ p. At (due p x) [] (waiting p F))

  pub binary-sim :
      {x : ℕ} {F : Besides} (at : Token rel) (op : ℕ) (l r : N) →
      Sim rel (At (plus 3 x) (r ∷ []) (held l F)) (One M x F)
      (binary B at.left op (nodeˡ l) (nodeˡ r)) (binary B' at.right op (nodeʳ l) (nodeʳ r))
  unfolding binary
  binary-sim at op l r =
      link-sim M refl for each λ i.
      leaf-sim M refl refl for each λ o.
      node-sim M refl at.both

  pub prefix-sim :
      {x : ℕ} {F : Besides} (at : Token rel) (op : ℕ) (t : N) →
      Sim rel (At (plus 2 x) (t ∷ []) F) (One M x F)
      (prefix B at.left op (nodeˡ t)) (prefix B' at.right op (nodeʳ t))
  unfolding prefix
  prefix-sim at op t =
      leaf-sim M refl refl for each λ o.
      node-sim M refl at.both

  joined_to_lem :
      {x : ℕ} {F : Besides} (p : Awaited N (Token rel)) (r : N) →
      Sim rel (At (due p x) (r ∷ []) (waiting p F)) (One M x F)
      (joined_to B (pendingˡ p) (nodeˡ r)) (joined_to B' (pendingʳ p) (nodeʳ r))
  unfolding joined_to
  joined_to_lem opening r = stays M r
  joined_to_lem (awaits l (joins op at)) r = binary-sim at op l r
  joined_to_lem (awaits l (repeats bit at)) r = binary-sim at (op_of bit) l r
  joined_to_lem (awaits l (shifts op at)) r = binary-sim at op l r

  module _ {row row' : Row} (R : Rows rel row row') {x : ℕ} {F : Besides} where
    module _ (t : N) where
      -- the operand stands left of an operator, whose token is taken
      after-sim :
          (op : Operator (Token rel)) →
          Sim rel (At x (t ∷ []) F) (Stepped (Awaits x F) (One M x F))
          (operand_next B row (pendingˡ (awaits t op))) (operand_next B' row' (pendingʳ (awaits t op)))
      unfolding operand_next
      after-sim op =
          take-sim M R same λ _ _.
          spare M 2 (gives λ c s s' q. (awaits t op, refl, refl, aside (plus 3 x) t F c s s' q))

      -- the operand is the last
      last :
          Sim rel (At x (t ∷ []) F) (Stepped (Awaits x F) (One M x F))
          (pure (done (nodeˡ t))) (pure (done (nodeʳ t)))
      last = gives λ c s s' p. (t, refl, refl, p)

      next-factor :
          Sim rel (At x (t ∷ []) F) (Stepped (Awaits x F) (One M x F))
          (next_factor B row (nodeˡ t)) (next_factor B' row' (nodeʳ t))
      unfolding next_factor
      next-factor =
          here-sim for each λ at.
          peek-sim R same λ k _.
          choose-sim k (after-sim (joins _ at) or
          after-sim (joins _ at) or
          after-sim (joins _ at) or
          other last)

      next-term :
          Sim rel (At x (t ∷ []) F) (Stepped (Awaits x F) (One M x F))
          (next_term B row (nodeˡ t)) (next_term B' row' (nodeʳ t))
      unfolding next_term
      next-term =
          here-sim for each λ at.
          peek-sim R same λ k _.
          choose-sim k (after-sim (repeats _ at) or
          after-sim (repeats _ at) or
          after-sim (repeats _ at) or
          after-sim (shifts _ at) or
          after-sim (shifts _ at) or
          after-sim (joins _ at) or
          after-sim (joins _ at) or
          other last)

      next_bit_lem :
          (bit : Bitwise) →
          Sim rel (At x (t ∷ []) F) (Stepped (Awaits x F) (One M x F))
          (next_bit B row bit (nodeˡ t)) (next_bit B' row' bit (nodeʳ t))
      unfolding next_bit
      next_bit_lem bit =
          here-sim for each λ at.
          peek-sim R same λ k _.
          pick-sim (eqb k (token_of bit)) (after-sim (repeats bit at)) last

      follows-sim :
          (p : Awaited N (Token rel)) →
          Sim rel (At x (t ∷ []) F) (Stepped (Awaits x F) (One M x F))
          (follows B row (pendingˡ p) (nodeˡ t)) (follows B' row' (pendingʳ p) (nodeʳ t))
      unfolding follows
      follows-sim opening = next-term
      follows-sim (awaits l (joins op at)) = next-term
      follows-sim (awaits l (repeats bit at)) = next_bit_lem bit
      follows-sim (awaits l (shifts op at)) = last

    module _ (p : Awaited N (Token rel)) (r : N) where
      pub factor-end :
          Sim rel (At (due p x) (r ∷ []) (waiting p F)) (Stepped (Awaits x F) (One M x F))
          (factor_end B row (pendingˡ p) (nodeˡ r)) (factor_end B' row' (pendingʳ p) (nodeʳ r))
      unfolding factor_end
      factor-end =
          joined_to_lem p r for each λ t.
          next-factor t

      pub term-end :
          Sim rel (At (due p x) (r ∷ []) (waiting p F)) (Stepped (Awaits x F) (One M x F))
          (term_end B row (pendingˡ p) (nodeˡ r)) (term_end B' row' (pendingʳ p) (nodeʳ r))
      unfolding term_end
      term-end =
          joined_to_lem p r for each λ t.
          follows-sim t p
