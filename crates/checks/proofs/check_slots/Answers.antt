use Rattle.checks.proofs.Laws.{passes, refuses, ends}
use borrow.Author.Rules.{rules}
use Rattle.checks.proofs.check_slots.Goals as goal

pub returns-in_err-check_columns : goal.returns-in_err-check_columns
returns-in_err-check_columns c = search (rules, refuses, c.in_err-check_columns.was, c.from_residual.ensures.1)

pub returns : goal.returns
returns c = search (rules, passes, ends, c.in_ok-check_columns.was)
