-- `lists::close_list` meets its contract: a law for each return, found among the facts of its path.
use Rattle.codes.proofs.Onto.{exits}
use Rattle.lists.proofs.Laws.{list-closed, list_open}
use borrow.Author.Rules.{rules}
use Rattle.lists.proofs.close_list.Goals as goal

pub returns-in_err-cursor : goal.returns-in_err-cursor
returns-in_err-cursor c = rw (exits c.from_residual.ensures.1) (search (rules, list_open, c.in_err-cursor.was))

pub returns : goal.returns
returns c = search (rules, list-closed, c.in_ok-cursor.was)
