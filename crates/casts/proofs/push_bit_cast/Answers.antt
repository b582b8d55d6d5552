-- `casts::push_bit_cast` meets its contract: a law for each return, found among the facts of its path.
use Rattle.casts.proofs.Laws.{bit-cast, no-bit-cast}
use borrow.Author.Rules.{rules}
use Rattle.casts.proofs.push_bit_cast.Goals as goal

pub returns-in-Some : goal.returns-in-Some
returns-in-Some c = search (rules, bit-cast)

pub returns-in-None : goal.returns-in-None
returns-in-None c = search (rules, no-bit-cast)
