-- `declarations::parse_value` meets its contract: a law for each return, found among the facts of its path.
use Rattle.codes.proofs.Onto.{returned}
use Rattle.declarations.proofs.Laws.{assignment-missing, value-stopped, semicolon-missing, value_read}
use Rattle.tokens.proofs.Bounds.{past-consumed}
use Rattle.declarations.proofs.Bounds.{past_value}
use borrow.Author.Rules.{rules}
use Rattle.declarations.proofs.parse_value.Goals as goal

pub returns-in_err-inside : goal.returns-in_err-inside
returns-in_err-inside c = returned c.from_residual.ensures.1 (search (rules, assignment-missing, c.in_err-inside.was))

pub parse_expression-requires : goal.parse_expression-requires
parse_expression-requires c = search (rules, past-consumed, c.in_ok-inside.was)

pub returns-in_err-cursor : goal.returns-in_err-cursor
returns-in_err-cursor c =
    returned c.from_residual-in_err-cursor.ensures.1
    (search (rules, value-stopped, c.in_ok-inside.was, c.in_err-cursor.was))

pub consume-requires-2 : goal.consume-requires-2
consume-requires-2 c = search (rules, past_value, c.in_ok-inside.was, c.in_ok-cursor.was)

pub returns-in_err-cursor-2 : goal.returns-in_err-cursor-2
returns-in_err-cursor-2 c =
    returned c.from_residual-in_err-cursor-2.ensures.1
    (search (rules, semicolon-missing, c.in_ok-inside.was, c.in_ok-cursor.was, c.in_err-cursor-2.was))

pub returns : goal.returns
returns c = search (rules, value_read, c.in_ok-inside.was, c.in_ok-cursor.was, c.in_ok-cursor-2.was)
