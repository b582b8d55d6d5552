-- Packing is undone.
use mathlib.Core.Path.{refl}
use borrow.Author.Tests.{le-ltb}
use Rattle.packing.specs.Exact.{Undone, Whole}
use Rattle.rules.specs.Codes.Limit as Limit
use Rattle.rules.specs.Words.{packed}
use Rattle.rules.proofs.Words.{exact}

pub undone : Undone
undone kind load k l =
    (packed kind load, rw (le-ltb Limit.Load load l) refl, rw (exact.kind kind load k, exact.load kind load k) refl)

pub whole : Whole
whole word h = let (k, l) = exact.small word h in rw (le-ltb _ _ l, exact.word word) refl
