-- `openings::after_builtin` meets its contract: a law for each return, found among the facts of its path.
use Rattle.openings.proofs.Laws.{builtin-opens, builtin-refused}
use borrow.Author.Rules.{rules}
use Rattle.openings.proofs.after_builtin.Goals as goal

pub returns-in-Ok : goal.returns-in-Ok
returns-in-Ok c = search (rules, builtin-opens)

pub returns-in-Err : goal.returns-in-Err
returns-in-Err c = (search (rules, builtin-refused), tt)
