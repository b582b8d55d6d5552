use Rattle.checks.proofs.Laws.{passes, refuses, ends}
use borrow.Author.Rules.{rules}
use Rattle.checks.proofs.check_word_declaration.Goals as goal

pub returns-in_err-check_declaration : goal.returns-in_err-check_declaration
returns-in_err-check_declaration c = search (rules, refuses, c.in_err-check_declaration.was, c.from_residual.ensures.1)

pub returns : goal.returns
returns c = search (rules, passes, ends, c.in_ok-check_declaration.was)
