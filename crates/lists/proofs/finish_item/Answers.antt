-- `lists::finish_item` meets its contract: a law for each return, found among the facts of its path.
use native.Mathlib.Omega.{arith}
use Rattle.nodes.proofs.Bounds.{after-item}
use Rattle.codes.proofs.Onto.{exits}
use Rattle.lists.proofs.Laws.{item-full, item-read}
use borrow.Author.Rules.{rules}
use Rattle.lists.proofs.finish_item.Goals as goal

pub returns-in_err-cursor : goal.returns-in_err-cursor
returns-in_err-cursor c = rw (exits c.from_residual.ensures.1) (search (rules, item-full, c.in_err-cursor.was))

pub parse_separator-requires : goal.parse_separator-requires
parse_separator-requires c =
    let (_, _, e) = after-item _ c.push_list_item.ensures c.in_ok-cursor.was c.requires.1 in omega arith

pub returns : goal.returns
returns c = search (rules, item-read, c.in_ok-cursor.was)
