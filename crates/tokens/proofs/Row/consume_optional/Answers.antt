-- `tokens::Row::consume_optional` meets its contract: a law for each return, found among the facts of its path.
use Rattle.tokens.proofs.Laws.{found, missing}
use borrow.Author.Rules.{rules}
use Rattle.tokens.proofs.Row.consume_optional.Goals as goal

pub returns-then-peek-expected : goal.returns-then-peek-expected
returns-then-peek-expected c = search (rules, found)

pub returns-else-peek-expected : goal.returns-else-peek-expected
returns-else-peek-expected c = search (rules, missing)
