use native.Mathlib.Omega.{arith}
use mathlib.Core.Path.{refl}
use Rattle.tokens.proofs.Bounds.{optional-next}
use Rattle.literals.proofs.Laws.{one-string, strings-read}
use borrow.Author.Rules.{rules}
use Rattle.literals.proofs.parse_strings.Goals as goal

pub returns-in_default : goal.returns-in_default
returns-in_default c = search (rules, one-string)

pub end_of_strings-end-requires : goal.end_of_strings-end-requires
end_of_strings-end-requires c = let (p, b) = optional-next c.consume_optional.ensures refl c.in-Some.is in omega arith

pub returns : goal.returns
returns c = search (rules, strings-read)
