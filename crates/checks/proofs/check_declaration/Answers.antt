use Rattle.checks.proofs.Laws.{passes, refuses, ends, regroup}
use borrow.Author.Rules.{rules}
use Rattle.checks.proofs.check_declaration.Goals as goal

pub returns-in_err-check_cursor : goal.returns-in_err-check_cursor
returns-in_err-check_cursor c = regroup _ _ _ (search (rules, refuses, c.in_err-check_cursor.was, c.from_residual.ensures.1))

pub returns-in_err-check_place : goal.returns-in_err-check_place
returns-in_err-check_place c = regroup _ _ _ (search (rules, refuses, passes, c.in_ok-check_cursor.was, c.in_err-check_place.was, c.from_residual-in_err-check_place.ensures.1))

pub returns-in_err-check_slots : goal.returns-in_err-check_slots
returns-in_err-check_slots c = regroup _ _ _ (search (rules, refuses, passes, c.in_ok-check_cursor.was, c.in_ok-check_place.was, c.in_err-check_slots.was, c.from_residual-in_err-check_slots.ensures.1))

pub returns : goal.returns
returns c = regroup _ _ _ (search (rules, passes, ends, c.in_ok-check_cursor.was, c.in_ok-check_place.was, c.in_ok-check_slots.was))
