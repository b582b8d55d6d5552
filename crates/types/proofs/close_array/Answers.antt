-- `types::close_array` meets its contract: a law for each return, found among the facts of its path.
use Rattle.types.proofs.Sizes.{returned-quiet, closed, not-closed}
use borrow.Author.Rules.{rules}
use Rattle.types.proofs.close_array.Goals as goal

pub returns-in_err-cursor : goal.returns-in_err-cursor
returns-in_err-cursor c = returned-quiet c.from_residual.ensures.1 (search (rules, not-closed, c.in_err-cursor.was))

pub returns : goal.returns
returns c = search (rules, closed, c.in_ok-cursor.was)
