-- The rules for declarations agree, over any two rows and builders of a model.
use Prim.Native.Nat.{ℕ}
use mathlib.Core.Path.{◌≡◌, refl}
use mathlib.Core.List.{List, []}
use Rattle.rules.specs.Places.{place_of, untaken}
use Rattle.rules.specs.Reading.{Row}
use Rattle.rules.specs.Builder.{Builder}
use Rattle.rules.specs.Declarations.{colon, typed, value, constant_end, constant, member, member_end, member_item}
use Rattle.rules.specs.Declarations.{member_list, members, structure, struct, word}
use Rattle.rules.proofs.Sim.{Relation, Token, Sim, Alike, Any, ◌same◌, ◌for◌, each, opens, gives, eased}
use Rattle.rules.proofs.Rounds.{Stepped}
use Rattle.rules.proofs.Model.{Rows, Model, plus}
use Rattle.rules.proofs.Steps.{One, First, Open, Gains, Follows, spare, stays, under, closed-at-once}
use Rattle.rules.proofs.Steps.{node-sim, leaf-sim, link-sim, item-sim, close-sim, here-sim, here-at, consume-sim}
use Rattle.rules.proofs.Steps.{refuse-at, optionally, optionally-from, ◌otherwise◌, loop-sim}
use Rattle.rules.proofs.Types.{type-rule}
use Rattle.rules.proofs.References.{step_end_lem}
use Rattle.rules.proofs.Expressions.{expression-rule}

module _ {B B' : Builder} {rel : Relation B.S B'.S} (M : Model B B' rel) where
  open M use {N, nodeˡ, nodeʳ, L, listˡ, listʳ, Besides, held, opened, At, begin}

  structure-sim :
      {x : ℕ} {F : Besides} (start : Token rel) (flags size : ℕ) (name : Token rel) (l : N) →
      Sim rel (At (plus 5 x) [] (held l F)) (One M x F)
      (structure B start.left flags size name.left (nodeˡ l))
      (structure B' start.right flags size name.right (nodeʳ l))
  unfolding structure
  structure-sim start flags size name l =
      link-sim M refl for each λ s.
      leaf-sim M refl refl for each λ z.
      leaf-sim M refl name.both for each λ m.
      leaf-sim M refl refl for each λ f.
      node-sim M refl start.both

  module _ {row row' : Row} (R : Rows rel row row') where
    colon-sim :
        {x : ℕ} {ts : List N} {F : Besides} (number : ℕ) → place_of number ≡ untaken →
        Sim rel (At x ts F) (Alike Any (At (plus 5 x) ts F)) (colon B row number) (colon B' row' number)
    unfolding colon
    colon-sim number e =
        here-at for each λ at.
        optionally-from M R (λ c s s' p. p.1) _ (
        (gives λ c s s' p. (refl, tt, p)) otherwise
        refuse-at M untaken e at at λ _ _ _. (refl, refl))

    pub typed-sim :
        (number unused : ℕ) → place_of number ≡ untaken →
        Gains M 10 (typed B row number unused) (typed B' row' number unused)
    unfolding typed
    typed-sim number unused e x F =
        consume-sim M R _ same λ _ _.
        colon-sim number e same λ _ _.
        type-rule M R unused _ F

    value-sim : (unused : ℕ) → Follows M (value B row unused) (value B' row' unused)
    unfolding value
    value-sim unused x F =
        consume-sim M R _ same λ _ _.
        expression-rule M R unused _ F for each λ t.
        consume-sim M R _ same λ _ _.
        spare M 10 (stays M t)

    pub constant-rule :
        (unused : ℕ) (start : Token rel) (flags : ℕ) →
        Follows M (constant B row unused start.left flags) (constant B' row' unused start.right flags)
    unfolding constant constant_end
    constant-rule unused start flags x F =
        here-sim for each λ name.
        typed-sim _ unused refl x F for each λ t.
        spare M 6 (
        under M t (value-sim unused) for each λ u.
        link-sim M refl for each λ i.
        leaf-sim M refl name.both for each λ m.
        leaf-sim M refl refl for each λ f.
        node-sim M refl start.both)

    member-sim : (unused : ℕ) → Gains M 9 (member B row unused) (member B' row' unused)
    unfolding member
    member-sim unused x F =
        here-sim for each λ name.
        typed-sim _ unused refl x F for each λ t.
        node-sim M refl name.both

    member-item :
        (unused : ℕ) {x : ℕ} {F : Besides} (us : L) →
        Sim rel (At x [] (opened us F)) (Stepped (Open M x F) (Open M x F))
        (member_item B row unused (listˡ us)) (member_item B' row' unused (listʳ us))
    unfolding member_item member_end
    member-item unused {x} {F} us =
        optionally M R _ (
        spare M 5 (gives λ c s s' p. (us, refl, refl, p)) otherwise
        member-sim unused x (opened us F) for each λ t.
        optionally M R _ (
        spare M 13 (
        item-sim M us t for each λ vs.
        gives λ c s s' p. (vs, refl, refl, p)) otherwise
        consume-sim M R _ same λ _ _.
        spare M 13 (step_end_lem M R us t)))

    pub members-sim :
        {x : ℕ} {F : Besides} (unused : ℕ) →
        Sim rel (At x [] F) (First M (plus 4 x) F) (members B row unused) (members B' row' unused)
    unfolding members member_list
    members-sim unused =
        consume-sim M R _ same λ _ _.
        eased (begin _ _) (loop-sim R (opens (each (λ us. member-item unused us))) _ _) for each λ us.
        close-sim M us

    pub struct-rule :
        (unused : ℕ) (start : Token rel) (flags : ℕ) →
        Follows M (struct B row unused start.left flags) (struct B' row' unused start.right flags)
    unfolding struct
    struct-rule unused start flags x F =
        here-sim for each λ name.
        consume-sim M R _ same λ _ _.
        optionally M R _ (
        spare M 4 (
        closed-at-once M for each λ l.
        structure-sim start _ 0 name l) otherwise
        members-sim unused for each λ l.
        spare M 4 (structure-sim start _ 0 name l))

    pub word-rule :
        (unused : ℕ) (start : Token rel) (flags kind : ℕ) →
        Follows M (word B row unused start.left flags kind) (word B' row' unused start.right flags kind)
    unfolding word
    word-rule unused start flags kind x F =
        here-sim for each λ name.
        consume-sim M R _ same λ _ _.
        members-sim unused for each λ l.
        spare M 4 (structure-sim start flags _ name l)
