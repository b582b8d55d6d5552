-- `tokens::Row::consume` meets its contract: a law for each return, found among the facts of its path.
use Rattle.tokens.proofs.Laws.{consumes, wrong}
use borrow.Author.Rules.{rules}
use Rattle.tokens.proofs.Row.consume.Goals as goal

pub returns-then-peek-expected : goal.returns-then-peek-expected
returns-then-peek-expected c = search (rules, consumes)

pub returns-else-peek-expected : goal.returns-else-peek-expected
returns-else-peek-expected c = search (rules, wrong)
