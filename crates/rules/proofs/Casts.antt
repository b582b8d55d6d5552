-- The rules for casts and for the size of a type agree, over any two rows and builders of a model.
use Prim.Native.Nat.{ℕ, suc}
use mathlib.Core.Bool.{Bool, true, false}
use mathlib.Core.Path.{refl}
use mathlib.Core.List.{[], ◌∷◌}
use Rattle.rules.specs.Reading.{Rule, Row, loop}
use Rattle.rules.specs.Builder.{Builder}
use Rattle.rules.specs.Expressions.{size_of, type_cast, coerced, singular_end}
use Rattle.rules.proofs.Sim.{Relation, Token, Sim, ◌same◌, ◌for◌, each, opens, gives, eased}
use Rattle.rules.proofs.Rounds.{Stepped}
use Rattle.rules.proofs.Model.{Rows, Model, plus}
use Rattle.rules.proofs.Steps.{One, Follows, spare, fewer, stays, under, node-sim, link-sim, here-sim, take-sim}
use Rattle.rules.proofs.Steps.{optionally, ◌otherwise◌, loop-sim}
use Rattle.rules.proofs.Items.{closed-sim}

-- the credit for the node of a `cast`, whose token stands before
abbrev pub cast-due : Bool → ℕ → ℕ
cast-due true x = suc x
cast-due false x = x

module _ {B B' : Builder} {rel : Relation B.S B'.S} (M : Model B B' rel)
    {row row' : Row} (R : Rows rel row row')
    {y : Rule B.S B.N} {y' : Rule B'.S B'.N} (ty : Follows M y y') where
  open M use {N, nodeˡ, nodeʳ, Besides, At}

  pub size-of : Follows M (size_of B row y) (size_of B' row' y')
  unfolding size_of
  size-of x F =
      take-sim M R same λ _ _.
      spare M 5 (
      ty x F for each λ t.
      fewer M 4 (closed-sim M R _ _ t refl refl))

  type-cast :
      {x : ℕ} {F : Besides} (t : N) →
      Sim rel (At (plus 2 x) (t ∷ []) F) (One M x F) (type_cast B row y (nodeˡ t)) (type_cast B' row' y' (nodeʳ t))
  unfolding type_cast
  type-cast t =
      here-sim for each λ at.
      under M t ty for each λ u.
      link-sim M refl for each λ i.
      node-sim M refl at.both

  coerced-sim :
      {x : ℕ} {F : Besides} (t : N) →
      Sim rel (At x (t ∷ []) F) (Stepped (One M x F) (One M x F))
      (coerced B row y (nodeˡ t)) (coerced B' row' y' (nodeʳ t))
  unfolding coerced
  coerced-sim t =
      optionally M R _ (
      spare M 3 (
      type-cast t for each λ u.
      gives λ c s s' p. (u, refl, refl, p)) otherwise
      gives λ c s s' p. (t, refl, refl, p))

  coerced-loop :
      {x : ℕ} {F : Besides} (t : N) →
      Sim rel (At x (t ∷ []) F) (One M x F)
      (loop row (coerced B row y) (nodeˡ t)) (loop row' (coerced B' row' y') (nodeʳ t))
  coerced-loop t = eased (λ c s s' p. (t, refl, refl, p)) (loop-sim R (opens (each coerced-sim)) _ _)

  pub singular-end :
      {x : ℕ} {F : Besides} (cast : Bool) (at : Token rel) (t : N) →
      Sim rel (At (cast-due cast x) (t ∷ []) F) (One M x F)
      (singular_end B row y cast at.left (nodeˡ t)) (singular_end B' row' y' cast at.right (nodeʳ t))
  unfolding singular_end
  singular-end true at t = node-sim M refl at.both for each λ u. coerced-loop u
  singular-end false at t = stays M t for each λ u. coerced-loop u
