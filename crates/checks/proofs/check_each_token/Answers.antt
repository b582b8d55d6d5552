use Rattle.checks.proofs.Laws.{bad-found, bad-place, none-found}
use Rattle.std.proofs.Common.{arith}
use borrow.Author.Rules.{rules}
use Rattle.checks.proofs.check_each_token.Goals as goal

pub overflow_cast-place : goal.overflow_cast-place
overflow_cast-place c = let b = bad-place _ _ c.requires.0 c.in-Some.ensures in omega arith

pub returns-in-Some : goal.returns-in-Some
returns-in-Some c =
    rw (c.bad_at.ensures.number, c.bad_at.ensures.start) (search (rules, bad-found, c.in-Some.ensures))

pub returns-in-None : goal.returns-in-None
returns-in-None c = search (rules, none-found, c.in-None.ensures)
