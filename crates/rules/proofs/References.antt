-- The rules for references agree, over any two rows and builders of a model.
use Prim.Native.Nat.{ℕ, suc, ◌+◌}
use mathlib.Core.Path.{refl}
use mathlib.Core.List.{List, [], ◌∷◌}
use lib.Dec.{ltb}
use Rattle.rules.specs.Codes.Limit as Limit
use Rattle.rules.specs.Reading.{Rule, Row}
use Rattle.rules.specs.Builder.{Builder}
use Rattle.rules.specs.Places.{span}
use Rattle.rules.specs.Expressions.{deref, name_alone, exceeded, ampersand, ampersands, address, step_end}
use Rattle.rules.specs.Expressions.{element_end, member, step, steps, stepped, reference, advanced, pointer}
use Rattle.rules.proofs.Sim.{Relation, Known, Token, Sim, Alike, Any, Via, ◌same◌, ◌for◌, each, opens, alike}
use Rattle.rules.proofs.Sim.{gives, eased, pick-sim}
use Rattle.rules.proofs.Rounds.{Stepped, repeat-sim}
use Rattle.rules.proofs.Model.{Rows, Model, plus}
use Rattle.rules.proofs.Steps.{One, First, Open, Follows, spare, stays, under, closed-at-once}
use Rattle.rules.proofs.Steps.{node-sim, leaf-sim, link-sim, item-sim, close-sim, here-sim, here-at, consume-sim}
use Rattle.rules.proofs.Steps.{refuse-at, optionally, ◌otherwise◌, loop-sim}
use Rattle.rules.proofs.Operators.{binary-sim}
use Rattle.rules.proofs.Items.{closed-sim}

module _ {B B' : Builder} {rel : Relation B.S B'.S} (M : Model B B' rel) where
  open M use {N, nodeˡ, nodeʳ, L, listˡ, listʳ, Besides, held, opened, At, begin}

  deref-sim :
      {x : ℕ} {F : Besides} (start : Token rel) (depth : ℕ) (name : Token rel) (u : N) →
      Sim rel (At (plus 4 x) [] (held u F)) (One M x F)
      (deref B start.left depth name.left (nodeˡ u)) (deref B' start.right depth name.right (nodeʳ u))
  unfolding deref
  deref-sim start depth name u =
      link-sim M refl for each λ s.
      leaf-sim M refl name.both for each λ i.
      leaf-sim M refl refl for each λ d.
      node-sim M refl start.both

  pub name-alone :
      {x : ℕ} {F : Besides} (name : Token rel) →
      Sim rel (At (plus 5 x) [] F) (One M x F) (name_alone B name.left) (name_alone B' name.right)
  unfolding name_alone
  name-alone name =
      closed-at-once M for each λ u.
      deref-sim name 0 name u

  exceeded-sim :
      {X Y : Type 0} {P : Known B.S B'.S} {Q : X → Y → Known B.S B'.S} (start : Token rel) →
      Sim rel P Q (exceeded B start.left) (exceeded B' start.right)
  unfolding exceeded
  exceeded-sim start =
      here-at for each λ end.
      refuse-at M span refl start end λ _ _ _. refl

  -- what is read is a depth and the name's token
  abbrev Addresses : Known B.S B'.S → ℕ × ℕ → ℕ × ℕ → Known B.S B'.S
  Addresses P = Via {I = ℕ × Token rel} (λ a. (a.0, a.1.left)) (λ a. (a.0, a.1.right)) (λ _. P)

  module _ {row row' : Row} (R : Rows rel row row') where
    module _ {x : ℕ} {ts : List N} {F : Besides} (start : Token rel) where
      ampersand-sim :
          (depth : ℕ) →
          Sim rel (At x ts F) (Stepped (Alike Any (At x ts F)) (Alike Any (At x ts F)))
          (ampersand B row start.left depth) (ampersand B' row' start.right depth)
      unfolding ampersand
      ampersand-sim depth =
          optionally M R _ (
          spare M 5 (pick-sim (ltb Limit.AddressDepth (depth + 1))
          (exceeded-sim start)
          (gives λ c s s' p. (refl, tt, p))) otherwise
          gives λ c s s' p. (refl, tt, p))

      ampersands-sim :
          Sim rel (At x ts F) (Alike Any (At x ts F))
          (ampersands B row start.left) (ampersands B' row' start.right)
      unfolding ampersands
      ampersands-sim =
          eased (λ c s s' p. (refl, tt, p)) (loop-sim R (alike {T = Any {A = ℕ}} (λ b _. ampersand-sim b)) 1 1)

      address-sim :
          Sim rel (At x ts F) (Addresses (At (plus 5 x) ts F))
          (address B row start.left) (address B' row' start.right)
      unfolding address
      address-sim =
          ampersands-sim same λ depth _.
          here-sim for each λ name.
          consume-sim M R _ same λ _ _.
          gives λ c s s' p. ((depth, name), refl, refl, p)

    pub step_end_lem :
        {x : ℕ} {F : Besides} (us : L) (t : N) →
        Sim rel (At (suc x) (t ∷ []) (opened us F)) (Stepped (Open M x F) (Open M x F))
        (step_end B row (listˡ us) (nodeˡ t)) (step_end B' row' (listʳ us) (nodeʳ t))
    unfolding step_end
    step_end_lem us t =
        item-sim M us t for each λ vs.
        gives λ c s s' p. (vs, refl, refl, p)

    element-end :
        {x : ℕ} {F : Besides} (us : L) (t : N) →
        Sim rel (At x (t ∷ []) (opened us F)) (Stepped (Open M x F) (Open M x F))
        (element_end B row (listˡ us) (nodeˡ t)) (element_end B' row' (listʳ us) (nodeʳ t))
    unfolding element_end
    element-end us t =
        closed-sim M R _ _ t refl refl for each λ u.
        spare M 3 (step_end_lem us u)

    member-sim :
        {x : ℕ} {F : Besides} (us : L) →
        Sim rel (At x [] (opened us F)) (Stepped (Open M x F) (Open M x F))
        (member B row (listˡ us)) (member B' row' (listʳ us))
    unfolding member
    member-sim us =
        here-sim for each λ at.
        consume-sim M R _ same λ _ _.
        leaf-sim M refl at.both for each λ t.
        spare M 3 (step_end_lem us t)

    module _ {e : Rule B.S B.N} {e' : Rule B'.S B'.N} (expr : Follows M e e') where
      step-sim :
          {x : ℕ} {F : Besides} (us : L) →
          Sim rel (At x [] (opened us F)) (Stepped (Open M x F) (Open M x F))
          (step B row e (listˡ us)) (step B' row' e' (listʳ us))
      unfolding step
      step-sim {x} {F} us =
          optionally M R _ (
          spare M 5 (expr x (opened us F) for each λ t. element-end us t) otherwise
          optionally M R _ (
          spare M 5 (member-sim us) otherwise
          gives λ c s s' p. (us, refl, refl, p)))

      steps-sim : {x : ℕ} {F : Besides} → Sim rel (At (suc x) [] F) (First M x F) (steps B row e) (steps B' row' e')
      unfolding steps
      steps-sim =
          here-sim for each λ start.
          eased (begin _ _)
          (repeat-sim (opens (each step-sim)) (λ _ _. exceeded-sim start) Limit.ReferenceDepth _ _) for each λ us.
          close-sim M us

      pub stepped-sim :
          {x : ℕ} {F : Besides} (start : Token rel) (depth : ℕ) (name : Token rel) →
          Sim rel (At (plus 5 x) [] F) (One M x F)
          (stepped B row e start.left depth name.left)
          (stepped B' row' e' start.right depth name.right)
      unfolding stepped
      stepped-sim start depth name =
          steps-sim for each λ u.
          deref-sim start depth name u

      pub reference-sim : Follows M (reference B row e) (reference B' row' e')
      unfolding reference
      reference-sim x F =
          here-sim for each λ start.
          address-sim start for each λ a.
          stepped-sim start 0 a.1

      advanced-sim :
          {x : ℕ} {F : Besides} (t : N) →
          Sim rel (At x (t ∷ []) F) (One M x F) (advanced B row e (nodeˡ t)) (advanced B' row' e' (nodeʳ t))
      unfolding advanced
      advanced-sim t =
          here-sim for each λ at.
          optionally M R _ (
          spare M 2 (under M t expr for each λ r. binary-sim M at _ t r) otherwise
          stays M t)

      pub pointer-sim :
          (start : Token rel) → Follows M (pointer B row e start.left) (pointer B' row' e' start.right)
      unfolding pointer
      pointer-sim start x F =
          address-sim start for each λ a.
          stepped-sim start a.0 a.1 for each λ t.
          advanced-sim t
