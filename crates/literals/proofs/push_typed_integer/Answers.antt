use Rattle.literals.proofs.Laws.{integer-read}
use borrow.Author.Rules.{rules}
use Rattle.literals.proofs.push_typed_integer.Goals as goal

pub returns : goal.returns
returns c = search (rules, integer-read)
