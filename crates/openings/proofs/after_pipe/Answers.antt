-- `openings::after_pipe` meets its contract: a law for each return, found among the facts of its path.
use Rattle.openings.proofs.Laws.{pipe-opens, pipe-refused}
use borrow.Author.Rules.{rules}
use Rattle.openings.proofs.after_pipe.Goals as goal

pub returns-in-Ok : goal.returns-in-Ok
returns-in-Ok c = (search (rules, pipe-opens), search rules)

pub returns-in-Err : goal.returns-in-Err
returns-in-Err c = (search (rules, pipe-refused), tt)
