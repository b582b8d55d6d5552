-- `declarations::parse_constant_declaration` meets its contract: a law for each return, found among the facts of its path.
use Rattle.codes.proofs.Onto.{returned}
use Rattle.declarations.proofs.Laws.{constant-stopped, constant-read}
use Rattle.declarations.proofs.Bounds.{typed-sized, typed-fits}
use borrow.Author.Rules.{rules}
use Rattle.declarations.proofs.parse_constant_declaration.Goals as goal

pub returns-in_err-cursor : goal.returns-in_err-cursor
returns-in_err-cursor c =
    returned c.from_residual.ensures.1 (search (rules, constant-stopped, c.in_err-cursor.was))

pub parse_rest_of_constant-requires : goal.parse_rest_of_constant-requires
parse_rest_of_constant-requires c = (
  search (rules, typed-sized, c.in_ok-cursor.was),
  search (rules, typed-fits, c.in_ok-cursor.was),
)

pub returns : goal.returns
returns c = search (rules, constant-read, c.in_ok-cursor.was)
