-- `declarations::parse_struct_declaration` meets its contract: a law for each return, found among the facts of its path.
use Rattle.codes.proofs.Onto.{returned}
use Rattle.declarations.proofs.Laws.{struct-unnamed, struct-opaque, struct-read}
use Rattle.tokens.proofs.Bounds.{past-consumed}
use Rattle.declarations.proofs.Bounds.{past-name}
use Rattle.nodes.proofs.Bounds.{slots}
use borrow.Author.Rules.{rules}
use Rattle.declarations.proofs.parse_struct_declaration.Goals as goal

pub returns-in_err-cursor : goal.returns-in_err-cursor
returns-in_err-cursor c = returned c.from_residual.ensures.1 (search (rules, struct-unnamed, c.in_err-cursor.was))

pub consume_optional-requires : goal.consume_optional-requires
consume_optional-requires c = search (rules, past-name, c.in_ok-cursor.was)

pub push_opaque_struct-requires : goal.push_opaque_struct-requires
push_opaque_struct-requires c =
    search (rules, slots)

pub parse_structure-requires : goal.parse_structure-requires
parse_structure-requires c =
    (search (rules, past-consumed, c.in_ok-cursor.was), search rules)

pub returns-in-Some : goal.returns-in-Some
returns-in-Some c = search (rules, struct-opaque, c.in_ok-cursor.was)

pub returns-in-None : goal.returns-in-None
returns-in-None c = search (rules, struct-read, c.in_ok-cursor.was)
