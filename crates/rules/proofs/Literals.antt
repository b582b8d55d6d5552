-- The rules for literals of more than one node agree, over any two rows and builders of a model.
use Prim.Native.Nat.{ℕ}
use mathlib.Core.Path.{refl}
use mathlib.Core.List.{List, []}
use Rattle.rules.specs.Reading.{Row}
use Rattle.rules.specs.Builder.{Builder}
use Rattle.rules.specs.Expressions.{string, strings, typed_integer}
use Rattle.rules.proofs.Sim.{Relation, Token, Sim, Alike, Any, ◌for◌, each, alike, gives, eased}
use Rattle.rules.proofs.Rounds.{Stepped}
use Rattle.rules.proofs.Model.{Rows, Model, plus}
use Rattle.rules.proofs.Steps.{One, Costs, TokenRead, spare, node-sim, leaf-sim, here-sim}
use Rattle.rules.proofs.Steps.{optionally, ◌otherwise◌, loop-sim}

module _ {B B' : Builder} {rel : Relation B.S B'.S} (M : Model B B' rel)
    {row row' : Row} (R : Rows rel row row') where
  open M use {N, Besides, At}

  string-sim :
      {x : ℕ} {ts : List N} {F : Besides} (u : Unit {0}) →
      Sim rel (At x ts F) (Stepped (Alike {A = Unit {0}} Any (At x ts F)) (TokenRead rel (At x ts F)))
      (string B row u) (string B' row' u)
  unfolding string
  string-sim u =
      here-sim for each λ end.
      optionally M R _ (
      spare M 5 (gives λ c s s' p. (refl, tt, p)) otherwise
      gives λ c s s' p. (end, refl, refl, p))

  pub strings-sim : (start : Token rel) → Costs M (strings B row start.left) (strings B' row' start.right)
  unfolding strings
  strings-sim start x F =
      optionally M R _ (
      spare M 4 (
      eased (λ c s s' p. (refl, tt, p))
      (loop-sim R (alike {T = Any {A = Unit {0}}} (λ b _. string-sim b)) tt tt) for each λ end.
      leaf-sim M refl end.both for each λ e.
      node-sim M refl start.both) otherwise
      leaf-sim M refl start.both)

  pub typed-integer :
      {x : ℕ} {F : Besides} (at : Token rel) →
      Sim rel (At (plus 2 x) [] F) (One M x F) (typed_integer B row at.left) (typed_integer B' row' at.right)
  unfolding typed_integer
  typed-integer at =
      leaf-sim M refl (R.types _ _ at.both) for each λ v.
      node-sim M refl at.both
