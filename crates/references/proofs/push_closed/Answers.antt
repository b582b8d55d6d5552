-- `references::push_closed` meets its contract: a law for each return, found among the facts of its path.
use Rattle.codes.proofs.Onto.{exits}
use Rattle.references.proofs.Laws.{closed-wrong, closed-read}
use borrow.Author.Rules.{rules}
use Rattle.references.proofs.push_closed.Goals as goal

pub returns-in_err-cursor : goal.returns-in_err-cursor
returns-in_err-cursor c = rw (exits c.from_residual.ensures.1) (search (rules, closed-wrong, c.in_err-cursor.was))

pub returns : goal.returns
returns c = search (rules, closed-read, c.in_ok-cursor.was)
