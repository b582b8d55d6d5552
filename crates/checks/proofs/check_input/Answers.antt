use Rattle.checks.proofs.Laws.{passes, refuses, ends, regroup}
use borrow.Author.Rules.{rules}
use Rattle.checks.proofs.check_input.Goals as goal

pub returns-in_err-check_cursor : goal.returns-in_err-check_cursor
returns-in_err-check_cursor c = regroup _ _ _ (search (rules, refuses, c.in_err-check_cursor.was, c.from_residual.ensures.1))

pub returns : goal.returns
returns c = regroup _ _ _ (search (rules, passes, ends, c.in_ok-check_cursor.was))
