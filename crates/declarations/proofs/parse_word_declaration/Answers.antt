-- `declarations::parse_word_declaration` meets its contract: a law for each return, found among the facts of its path.
use Rattle.codes.proofs.Onto.{returned}
use Rattle.declarations.proofs.Laws.{word-unnamed, word_read}
use Rattle.tokens.proofs.Bounds.{past-consumed}
use Rattle.declarations.proofs.Bounds.{size_fits}
use borrow.Author.Rules.{rules}
use Rattle.declarations.proofs.parse_word_declaration.Goals as goal

pub returns-in_err-cursor : goal.returns-in_err-cursor
returns-in_err-cursor c = returned c.from_residual.ensures.1 (search (rules, word-unnamed, c.in_err-cursor.was))

pub parse_structure-requires : goal.parse_structure-requires
parse_structure-requires c = (search (rules, past-consumed, c.in_ok-cursor.was), search (rules, size_fits))

pub returns : goal.returns
returns c = search (rules, word_read, c.in_ok-cursor.was)
