use Rattle.checks.proofs.Laws.{passes, refuses, ends}
use borrow.Author.Rules.{rules}
use Rattle.checks.proofs.check_row.Goals as goal

pub returns-in_err-check_size : goal.returns-in_err-check_size
returns-in_err-check_size c = search (rules, refuses, c.in_err-check_size.was, c.from_residual.ensures.1)

pub returns-in_err-check_each_token : goal.returns-in_err-check_each_token
returns-in_err-check_each_token c = search (rules, refuses, passes, c.in_ok-check_size.was, c.in_err-check_each_token.was, c.from_residual-in_err-check_each_token.ensures.1)

pub returns : goal.returns
returns c = search (rules, passes, ends, c.in_ok-check_size.was, c.in_ok-check_each_token.was)
