-- The node that a rule reads stands below the count: of each rule that the code reads with a function of its own.
use Prim.Native.Nat.{ℕ, ◌≤◌, ◌<◌}
use mathlib.Core.Path.{◌≡◌}
use lib.ListN.{length}
use Rattle.rules.specs.Places.{place_of, untaken}
use Rattle.rules.specs.Reading.{Rule, Row, ok}
use Rattle.rules.specs.Columns.{columns}
use Rattle.rules.specs.Words.{Words, words}
use Rattle.rules.specs.Types.{type}
use Rattle.rules.specs.Declarations.{typed, members}
use Rattle.rules.specs.Expressions.{expression, reference, primary, unary, singular, product, sum}
use Rattle.rules.proofs.Types.{type-rule}
use Rattle.rules.proofs.References.{reference-sim}
use Rattle.rules.proofs.Expressions.{expression-rule, primary-sim, unary-sim, singular-sim, product-sim, sum-sim}
use Rattle.rules.proofs.Declarations.{typed-sim, members-sim}
use Rattle.rules.proofs.Words.{packing, once, Packs, rooted, rooted-aside}

abbrev pub Rooted : Rule Words ℕ → Type 0
Rooted q = (w : Words) (c n : ℕ) → w.count ≤ length w.words → (q c w).result ≡ ok n → n < (q c w).state.count

module _ (row : Row) (unused : ℕ) where
  pub expression-packs : Packs (expression columns row unused) (expression words row unused)
  expression-packs b v = expression-rule (packing b v) (once b v row) unused

  pub type-packs : Packs (type columns row unused) (type words row unused)
  type-packs b v = type-rule (packing b v) (once b v row) unused

  pub type-root : Rooted (type words row unused)
  type-root = rooted 0 type-packs

  pub expression-root : Rooted (expression words row unused)
  expression-root = rooted 0 expression-packs

  pub reference-root : Rooted (reference words row (expression words row unused))
  reference-root = rooted 0 (λ b v. reference-sim (packing b v) (once b v row) (expression-packs b v))

  pub primary-root : Rooted (primary words row (expression words row unused))
  primary-root = rooted 0 (λ b v. primary-sim (packing b v) (once b v row) (expression-packs b v) (type-packs b v))

  pub unary-root : Rooted (unary words row (expression words row unused) (type words row unused))
  unary-root = rooted 0 (λ b v. unary-sim (packing b v) (once b v row) (expression-packs b v) (type-packs b v))

  pub singular-root : Rooted (singular words row (expression words row unused) (type words row unused))
  singular-root = rooted 0 (λ b v. singular-sim (packing b v) (once b v row) (expression-packs b v) (type-packs b v))

  pub product-root : Rooted (product words row (expression words row unused) (type words row unused))
  product-root = rooted 0 (λ b v. product-sim (packing b v) (once b v row) (expression-packs b v) (type-packs b v))

  pub sum-root : Rooted (sum words row (expression words row unused) (type words row unused))
  sum-root = rooted 0 (λ b v. sum-sim (packing b v) (once b v row) (expression-packs b v) (type-packs b v))

  pub typed-root : (number : ℕ) → place_of number ≡ untaken → Rooted (typed words row number unused)
  typed-root number e = rooted 10 (λ b v. typed-sim (packing b v) (once b v row) number unused e)

  pub members-root : Rooted (members words row unused)
  members-root = rooted-aside 4 (λ b v x F. members-sim (packing b v) (once b v row) unused)
