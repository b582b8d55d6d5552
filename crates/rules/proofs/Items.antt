-- The rules for comma lists agree, over any two rows and builders of a model.
use Prim.Native.Nat.{ℕ, suc, ◌+◌}
use mathlib.Core.Path.{refl}
use mathlib.Core.List.{[], ◌∷◌}
use Rattle.rules.specs.Codes.{back}
use Rattle.rules.specs.Reading.{Rule, Row}
use Rattle.rules.specs.Builder.{Builder}
use Rattle.rules.specs.Expressions.{Owner, call, structural, elements, closing_of}
use Rattle.rules.specs.Expressions.{owned, list_end, closed, separator, item_end, list_item, comma_list}
use Rattle.rules.proofs.Sim.{Relation, Known, Token, Sim, Via, ◌same◌, ◌for◌, each, opens, gives, eased}
use Rattle.rules.proofs.Rounds.{Stepped}
use Rattle.rules.proofs.Model.{Rows, Model, Kind, Loaded, plus}
use Rattle.rules.proofs.Steps.{One, Costs, spare, node-sim, leaf-sim, link-sim, item-sim, close-sim}
use Rattle.rules.proofs.Steps.{consume-sim, optionally, ◌otherwise◌, loop-sim}

-- what a list belongs to, with its name's token in both rows
pub data Owners (K : Type 0) : Type 0 where
  calls : K → ℕ → Owners K
  fields : K → Owners K
  array : Owners K

abbrev owner : {K : Type 0} → (K → ℕ) → Owners K → Owner
owner f (calls name builtin) = call (f name) builtin
owner f (fields name) = structural (f name)
owner f array = elements

abbrev pub ownerˡ : {S S' : Type 0} {rel : Relation S S'} → Owners (Token rel) → Owner
ownerˡ = owner (λ t. t.left)

abbrev pub ownerʳ : {S S' : Type 0} {rel : Relation S S'} → Owners (Token rel) → Owner
ownerʳ = owner (λ t. t.right)

module _ {B B' : Builder} {rel : Relation B.S B'.S} (M : Model B B' rel) where
  open M use {N, nodeˡ, nodeʳ, L, listˡ, listʳ, Besides, opened, At, begin}

  -- what is read is an open list and the number of its items
  abbrev Counted : ℕ → Besides → B.L × ℕ → B'.L × ℕ → Known B.S B'.S
  Counted x F = Via {I = L × ℕ}
      (λ p. (listˡ p.0, p.1))
      (λ p. (listʳ p.0, p.1))
      (λ p. At x [] (opened p.0 F))

  owned-sim :
      {x : ℕ} {F : Besides} (w : Owners (Token rel)) (n : ℕ) (l : N) →
      Sim rel (At (plus 2 x) (l ∷ []) F) (One M x F)
      (owned B (ownerˡ w) n (nodeˡ l)) (owned B' (ownerʳ w) n (nodeʳ l))
  unfolding owned
  owned-sim (calls name builtin) n l =
      leaf-sim M refl name.both for each λ i.
      node-sim M refl refl
  owned-sim (fields name) n l = spare M 1 (node-sim M refl name.both)
  owned-sim array n l = spare M 1 (node-sim M refl refl)

  list-end :
      {x : ℕ} {F : Besides} (w : Owners (Token rel)) (us : L) (n : ℕ) →
      Sim rel (At (plus 4 x) [] (opened us F)) (One M x F)
      (list_end B (ownerˡ w) (listˡ us, n)) (list_end B' (ownerʳ w) (listʳ us, n))
  unfolding list_end
  list-end w us n =
      close-sim M us for each λ u.
      link-sim M refl for each λ s.
      owned-sim w n s

  module _ {row row' : Row} (R : Rows rel row row') where
    pub closed-sim :
        {x : ℕ} {F : Besides} (closing kind : ℕ) (t : N) → Kind kind (back 1 ∷ []) → Loaded rel kind 0 0 →
        Sim rel (At x (t ∷ []) F) (One M (plus 4 x) F)
        (closed B row closing kind (nodeˡ t)) (closed B' row' closing kind (nodeʳ t))
    unfolding closed
    closed-sim closing kind t e d =
        consume-sim M R _ same λ _ _.
        node-sim M e d

    module _ {x : ℕ} {F : Besides} (closing : ℕ) where
      separator-sim :
          (us : L) (n : ℕ) →
          Sim rel (At x [] (opened us F)) (Stepped (Counted (plus 2 x) F) (Counted (plus 5 x) F))
          (separator B row closing (listˡ us, n)) (separator B' row' closing (listʳ us, n))
      unfolding separator
      separator-sim us n =
          optionally M R _ (
          spare M 3 (gives λ c s s' p. ((us, n), refl, refl, p)) otherwise
          consume-sim M R _ same λ _ _.
          gives λ c s s' p. ((us, n), refl, refl, p))

      item-end :
          (us : L) (n : ℕ) (t : N) →
          Sim rel (At (suc x) (t ∷ []) (opened us F)) (Stepped (Counted (plus 2 x) F) (Counted (plus 5 x) F))
          (item_end B row closing (listˡ us, n) (nodeˡ t)) (item_end B' row' closing (listʳ us, n) (nodeʳ t))
      unfolding item_end
      item-end us n t =
          item-sim M us t for each λ vs.
          separator-sim vs (n + 1)

    module _ {m : Rule B.S B.N} {m' : Rule B'.S B'.N} (one : Costs M m m') where
      list-item :
          {x : ℕ} {F : Besides} (closing : ℕ) (us : L) (n : ℕ) →
          Sim rel (At (plus 2 x) [] (opened us F)) (Stepped (Counted (plus 2 x) F) (Counted (plus 5 x) F))
          (list_item B row closing m (listˡ us, n)) (list_item B' row' closing m' (listʳ us, n))
      unfolding list_item
      list-item {x} {F} closing us n =
          optionally M R _ (
          spare M 2 (gives λ c s s' p. ((us, n), refl, refl, p)) otherwise
          one (suc x) (opened us F) for each λ t.
          item-end closing us n t)

      pub comma-list :
          (w : Owners (Token rel)) (x : ℕ) (F : Besides) →
          Sim rel (At (plus 2 x) [] F) (One M x F) (comma_list B row (ownerˡ w) m) (comma_list B' row' (ownerʳ w) m')
      unfolding comma_list
      comma-list w x F =
          eased (λ c s s' p. let (l, d, e, q) = begin _ F c s s' p in ((l, 0), rw d refl, rw e refl, q))
          (loop-sim R (opens (each λ p. listed w p.0 p.1)) _ _) for each λ p.
          spare M 1 (list-end w p.0 p.1)
        where
          listed :
              (w : Owners (Token rel)) (us : L) (n : ℕ) →
              Sim rel (At (plus 2 x) [] (opened us F)) (Stepped (Counted (plus 2 x) F) (Counted (plus 5 x) F))
              (list_item B row (closing_of (ownerˡ w)) m (listˡ us, n))
              (list_item B' row' (closing_of (ownerʳ w)) m' (listʳ us, n))
          listed (calls name builtin) us n = list-item _ us n
          listed (fields name) us n = list-item _ us n
          listed array us n = list-item _ us n
