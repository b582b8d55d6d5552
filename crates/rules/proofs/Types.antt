-- The rules for types agree, over any two rows and builders of a model.
use Prim.Native.Nat.{ℕ, zero, suc, ◌+◌}
use mathlib.Core.Path.{refl}
use mathlib.Core.List.{[], ◌∷◌}
use lib.Dec.{ltb}
use Rattle.rules.specs.Codes.{back}
use Rattle.rules.specs.Reading.{Rule, Row}
use Rattle.rules.specs.Builder.{Builder}
use Rattle.rules.specs.Places.{taken, untaken}
use Rattle.rules.specs.Types.{bracketed, array_size, pointer_to, view_of, array_of, inner_from, inner_type, type}
use Rattle.rules.proofs.Sim.{Relation, Known, Sim, Via, other, ◌or◌, ◌same◌, ◌for◌, each, gives}
use Rattle.rules.proofs.Sim.{pick-sim, choose-from}
use Rattle.rules.proofs.Model.{Rows, Model, Kind, Loaded, plus}
use Rattle.rules.proofs.Steps.{Gains, Follows, spare, stays, node-sim, leaf-sim, refuse-at}
use Rattle.rules.proofs.Steps.{here-sim, here-at, take_at, consume-sim}

-- an array type by its size: its kind, which has one part, and its load in both
record Array {S S' : Type 0} (rel : Relation S S') : Type 0 where
  kind : ℕ
  left : ℕ
  right : ℕ
  part : Kind kind (back 1 ∷ [])
  loads : Loaded rel kind left right

module _ {B B' : Builder} {rel : Relation B.S B'.S} (M : Model B B' rel)
    {row row' : Row} (R : Rows rel row row') where
  open M use {Besides, At}

  abbrev Arrays : Known B.S B'.S → ℕ × ℕ → ℕ × ℕ → Known B.S B'.S
  Arrays P = Via {I = Array rel} (λ a. (a.kind, a.left)) (λ a. (a.kind, a.right)) (λ _. P)

  bracketed-sim :
      {x : ℕ} {F : Besides} (kind l l' : ℕ) → Kind kind (back 1 ∷ []) → Loaded rel kind l l' →
      Sim rel (At x [] F) (Arrays (At (plus 5 x) [] F)) (bracketed B row kind l) (bracketed B' row' kind l')
  unfolding bracketed
  bracketed-sim kind l l' e d =
      consume-sim M R _ same λ _ _.
      gives λ c s s' p. (record { kind = kind; left = l; right = l'; part = e; loads = d }, refl, refl, p)

  array_size_lem :
      {x : ℕ} {F : Besides} → Sim rel (At x [] F) (Arrays (At (plus 5 x) [] F)) (array_size B row) (array_size B' row')
  unfolding array_size
  array_size_lem =
      here-at for each λ at.
      take_at M R at same λ size _.
      choose-from (λ c s s' p. p.1) size (
      (gives λ c s s' p. (record { kind = _; left = 0; right = 0; part = refl; loads = refl }, refl, refl, p)) or
      spare M 5 (bracketed-sim _ _ _ refl refl) or
      spare M 5 (bracketed-sim _ _ _ refl refl) or
      spare M 5 (bracketed-sim _ _ _ refl at.both) or
      spare M 5 (bracketed-sim _ _ _ refl at.both) or
      other (refuse-at M taken refl at at λ _ _ _. (refl, refl)))

  module _ {m : Rule B.S B.N} {m' : Rule B'.S B'.N} (inner : Gains M 4 m m') where
    pointer-to : Gains M 3 (pointer_to B row m) (pointer_to B' row' m')
    unfolding pointer_to
    pointer-to x F =
        inner x F for each λ t.
        node-sim M refl refl

    view-of : Gains M 4 (view_of B row m) (view_of B' row' m')
    unfolding view_of
    view-of x F =
        inner x F for each λ t.
        consume-sim M R _ same λ _ _.
        spare M 4 (node-sim M refl refl)

    array-of : Gains M 4 (array_of B row m) (array_of B' row' m')
    unfolding array_of
    array-of x F =
        array_size_lem for each λ a.
        inner _ F for each λ t.
        spare M 4 (node-sim M a.part a.loads)

    inner-from : Gains M 4 (inner_from B row m) (inner_from B' row' m')
    unfolding inner_from
    inner-from x F =
        here-at for each λ at.
        take_at M R at same λ k _.
        choose-from (λ c s s' p. p.1) k (leaf-sim M refl (R.types _ _ at.both) or
        leaf-sim M refl at.both or
        spare M 4 (pointer-to _ F) or
        spare M 5 (view-of x F) or
        spare M 5 (array-of x F) or
        other (refuse-at M taken refl at at λ _ _ _. (refl, refl)))

  inner_type_lem : (unused : ℕ) → Gains M 4 (inner_type B row unused) (inner_type B' row' unused)
  unfolding inner_type
  inner_type_lem zero x F = here-at for each λ at. refuse-at M untaken refl at at λ _ _ _. (refl, refl)
  inner_type_lem (suc unused) x F = inner-from (inner_type_lem unused) x F

  pub type-rule : (unused : ℕ) → Follows M (type B row unused) (type B' row' unused)
  unfolding type
  type-rule unused x F =
      here-sim for each λ start.
      inner_type_lem unused x F for each λ t.
      here-sim for each λ end.
      rw (R.longer _ _ _ _ start.both end.both) (
      pick-sim (ltb (start.right + 1) end.right)
      (spare M 2 (leaf-sim M refl end.both for each λ e. node-sim M refl start.both))
      (spare M 4 (stays M t)))
