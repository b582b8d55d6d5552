-- `declarations::parse_rest_of_constant` meets its contract: a law for each return, found among the facts of its path.
use Rattle.codes.proofs.Onto.{returned}
use Rattle.declarations.proofs.Laws.{constant-value-stopped, constant-value-read}
use Rattle.declarations.proofs.Bounds.{value-slots}
use borrow.Author.Rules.{rules}
use Rattle.declarations.proofs.parse_rest_of_constant.Goals as goal

pub returns-in_err-cursor : goal.returns-in_err-cursor
returns-in_err-cursor c =
    returned c.from_residual.ensures.1 (search (rules, constant-value-stopped, c.in_err-cursor.was))

pub push_constant-requires : goal.push_constant-requires
push_constant-requires c =
    (search (rules, value-slots, c.in_ok-cursor.was), search rules)

pub returns : goal.returns
returns c = search (rules, constant-value-read, c.in_ok-cursor.was)
