-- `tokens::Row::take` meets its contract: a law for each return, found among the facts of its path.
use Rattle.rules.specs.Reading.{take}
use borrow.Author.Rules.{rules}
use Rattle.tokens.proofs.Row.take.Goals as goal

pub returns : goal.returns
unfolding take
returns c = record { kind = search rules; cursor = search rules }
