-- `casts::optional_cast` meets its contract: a law for each return, found among the facts of its path.
use Rattle.casts.proofs.Laws.{cast-alone, cast-optional}
use borrow.Author.Rules.{rules}
use Rattle.casts.proofs.optional_cast.Goals as goal

pub returns-then-bare : goal.returns-then-bare
returns-then-bare c = search (rules, cast-alone)

pub returns-else-bare : goal.returns-else-bare
returns-else-bare c = search (rules, cast-optional)
