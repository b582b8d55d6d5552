-- `declarations::parse_struct_members` meets its contract: a law for each return, found among the facts of its path.
use Rattle.codes.proofs.Onto.{returned}
use Rattle.declarations.proofs.Laws.{brace-missing, members-read}
use Rattle.tokens.proofs.Bounds.{past-consumed}
use borrow.Author.Rules.{rules}
use Rattle.declarations.proofs.parse_struct_members.Goals as goal

pub returns-in_err-cursor : goal.returns-in_err-cursor
returns-in_err-cursor c = returned c.from_residual.ensures.1 (search (rules, brace-missing, c.in_err-cursor.was))

pub parse_rest_of_members-requires : goal.parse_rest_of_members-requires
parse_rest_of_members-requires c = search (rules, past-consumed, c.in_ok-cursor.was)

pub returns : goal.returns
returns c = search (rules, members-read, c.in_ok-cursor.was)
