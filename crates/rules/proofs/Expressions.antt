-- The rules for expressions agree, over any two rows and builders of a model.
use Prim.Native.Nat.{ℕ, zero, suc}
use mathlib.Core.Bool.{true, false}
use mathlib.Core.Path.{refl}
use mathlib.Core.List.{[]}
use Rattle.rules.specs.Codes.{pick}
use Rattle.rules.specs.Reading.{Rule, Row}
use Rattle.rules.specs.Builder.{Builder}
use Rattle.rules.specs.Places.{taken, untaken}
use Rattle.rules.specs.Expressions.{takes_unary, field, items, named, builtin, parenthesized, primary, prefixed}
use Rattle.rules.specs.Expressions.{length_of, unary, singular, factor, product, term, sum, expression}
use Rattle.rules.proofs.Sim.{Relation, Token, Sim, other, ◌or◌, ◌same◌, ◌for◌, each, opens, eased}
use Rattle.rules.proofs.Sim.{choose-from, choose-sim}
use Rattle.rules.proofs.Rounds.{Stepped}
use Rattle.rules.proofs.Model.{Rows, Model, plus}
use Rattle.rules.proofs.Steps.{One, Follows, Costs, spare, fewer, node-sim, leaf-sim, refuse-at}
use Rattle.rules.proofs.Steps.{here-sim, here-at, peek-sim, take-sim, take_at, consume-sim}
use Rattle.rules.proofs.Steps.{optionally, ◌otherwise◌, loop-sim}
use Rattle.rules.proofs.Types.{type-rule}
use Rattle.rules.proofs.Operators.{Awaited, opening, awaits, joins, repeats, shifts, Awaits, due, waiting}
use Rattle.rules.proofs.Operators.{pendingˡ, pendingʳ, prefix-sim, factor-end, term-end}
use Rattle.rules.proofs.Items.{Owners, calls, fields, array, ownerˡ, ownerʳ, closed-sim, comma-list}
use Rattle.rules.proofs.References.{name-alone, stepped-sim, reference-sim, pointer-sim}
use Rattle.rules.proofs.Literals.{strings-sim, typed-integer}
use Rattle.rules.proofs.Casts.{size-of, singular-end}

module _ {B B' : Builder} {rel : Relation B.S B'.S} (M : Model B B' rel)
    {row row' : Row} (R : Rows rel row row') where
  open M use {N, Besides, At}

  -- an expression of less nesting, and a type
  module _ {e : Rule B.S B.N} {e' : Rule B'.S B'.N} (expr : Follows M e e')
      {y : Rule B.S B.N} {y' : Rule B'.S B'.N} (ty : Follows M y y') where
    field-sim : Costs M (field B row e) (field B' row' e')
    unfolding field
    field-sim x F =
        here-sim for each λ name.
        consume-sim M R _ same λ _ _.
        optionally M R _ (
        spare M 10 (
        expr (suc x) F for each λ t.
        node-sim M refl name.both) otherwise
        name-alone M name for each λ t.
        node-sim M refl name.both)

    one-sim : Costs M e e'
    one-sim x F = spare M 1 (expr x F)

    items-sim :
        (w : Owners (Token rel)) (x : ℕ) (F : Besides) →
        Sim rel (At (plus 2 x) [] F) (One M x F) (items B row e (ownerˡ w)) (items B' row' e' (ownerʳ w))
    unfolding items
    items-sim (calls name builtin) = comma-list M R one-sim (calls name builtin)
    items-sim (fields name) = comma-list M R field-sim (fields name)
    items-sim array = comma-list M R one-sim array

    named-sim :
        {x : ℕ} {F : Besides} (name : Token rel) →
        Sim rel (At (plus 5 x) [] F) (One M x F) (named B row e name.left) (named B' row' e' name.right)
    unfolding named
    named-sim {x} {F} name =
        optionally M R _ (
        spare M 8 (items-sim (calls name 0) x F) otherwise
        optionally M R _ (
        spare M 8 (items-sim (fields name) x F) otherwise
        stepped-sim M R expr name 0 name))

    builtin-sim : (name : Token rel) → Follows M (builtin B row e name.left) (builtin B' row' e' name.right)
    unfolding builtin
    builtin-sim name x F =
        consume-sim M R _ same λ _ _.
        spare M 3 (items-sim (calls name 1) x F)

    parenthesized-sim : Follows M (parenthesized B row e) (parenthesized B' row' e')
    unfolding parenthesized
    parenthesized-sim x F =
        expr x F for each λ t.
        fewer M 4 (closed-sim M R _ _ t refl refl)

    pub primary-sim : Follows M (primary B row e) (primary B' row' e')
    unfolding primary
    primary-sim x F =
        here-at for each λ at.
        take_at M R at same λ k _.
        choose-from (λ c s s' p. p.1) k (spare M 4 (leaf-sim M refl at.both) or
        spare M 4 (leaf-sim M refl at.both) or
        spare M 3 (typed-integer M R at) or
        spare M 4 (leaf-sim M refl at.both) or
        spare M 4 (leaf-sim M refl at.both) or
        spare M 4 (strings-sim M R at x F) or
        spare M 5 (pointer-sim M R expr at x F) or
        named-sim at or
        spare M 5 (builtin-sim at x F) or
        spare M 3 (items-sim array x F) or
        spare M 5 (parenthesized-sim x F) or
        other (refuse-at M taken refl at at λ _ _ _. (refl, refl)))

    prefixed-sim : (op : ℕ) → Follows M (prefixed B row e op) (prefixed B' row' e' op)
    unfolding prefixed
    prefixed-sim op x F =
        here-sim for each λ at.
        take-sim M R same λ _ _.
        spare M 3 (
        primary-sim _ F for each λ t.
        prefix-sim M at op t)

    length-of : Follows M (length_of B row e) (length_of B' row' e')
    unfolding length_of
    length-of x F =
        take-sim M R same λ _ _.
        spare M 5 (
        reference-sim M R expr x F for each λ t.
        fewer M 4 (closed-sim M R _ _ t refl refl))

    pub unary-sim : Follows M (unary B row e y) (unary B' row' e' y')
    unfolding unary
    unary-sim x F =
        peek-sim R same λ k _.
        choose-sim k (size-of M R ty x F or
        length-of x F or
        prefixed-sim _ x F or
        prefixed-sim _ x F or
        other (primary-sim x F))

    pub singular-sim : Follows M (singular B row e y) (singular B' row' e' y')
    unfolding singular
    singular-sim x F =
        here-sim for each λ at.
        optionally M R _ (
        spare M 4 (
        unary-sim (suc x) F for each λ t.
        singular-end M R ty true at t) otherwise
        unary-sim x F for each λ t.
        singular-end M R ty false at t)

    factor-sim :
        {x : ℕ} {F : Besides} (p : Awaited N (Token rel)) →
        Sim rel (At (due M p x) [] (waiting M p F)) (Stepped (Awaits M x F) (One M x F))
        (factor B row e y (pendingˡ M p)) (factor B' row' e' y' (pendingʳ M p))
    unfolding factor
    factor-sim {x} {F} p =
        singular-sim (due M p x) (waiting M p F) for each λ r.
        factor-end M R p r

    pub product-sim : Follows M (product B row e y) (product B' row' e' y')
    unfolding product
    product-sim x F = eased (λ c s s' p. (opening, refl, refl, p)) (loop-sim R (opens (each factor-sim)) _ _)

    operand-sim :
        (x : ℕ) (F : Besides) (p : Awaited N (Token rel)) →
        Sim rel (At x [] (waiting M p F)) (One M x (waiting M p F))
        (pick (takes_unary (pendingˡ M p)) (unary B row e y) (product B row e y))
        (pick (takes_unary (pendingʳ M p)) (unary B' row' e' y') (product B' row' e' y'))
    operand-sim x F opening = product-sim _ _
    operand-sim x F (awaits l (joins op at)) = product-sim _ _
    operand-sim x F (awaits l (repeats bit at)) = unary-sim _ _
    operand-sim x F (awaits l (shifts op at)) = unary-sim _ _

    term-sim :
        {x : ℕ} {F : Besides} (p : Awaited N (Token rel)) →
        Sim rel (At (due M p x) [] (waiting M p F)) (Stepped (Awaits M x F) (One M x F))
        (term B row e y (pendingˡ M p)) (term B' row' e' y' (pendingʳ M p))
    unfolding term
    term-sim {x} {F} p =
        operand-sim (due M p x) F p for each λ r.
        term-end M R p r

    pub sum-sim : Follows M (sum B row e y) (sum B' row' e' y')
    unfolding sum
    sum-sim x F = eased (λ c s s' p. (opening, refl, refl, p)) (loop-sim R (opens (each term-sim)) _ _)

  pub expression-rule : (unused : ℕ) → Follows M (expression B row unused) (expression B' row' unused)
  unfolding expression
  expression-rule zero x F = here-at for each λ at. refuse-at M untaken refl at at λ _ _ _. (refl, refl)
  expression-rule (suc unused) x F = sum-sim (expression-rule unused) (type-rule M R unused) x F
