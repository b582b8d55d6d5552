-- `lists::finish_field` meets its contract: a law for each return, found among the facts of its path.
use native.Mathlib.Omega.{arith}
use Rattle.nodes.proofs.Bounds.{after_push}
use Rattle.codes.proofs.Onto.{exits}
use Rattle.lists.proofs.Laws.{field-refused, field-read}
use borrow.Author.Rules.{rules}
use Rattle.lists.proofs.finish_field.Goals as goal

pub returns-in_err-cursor : goal.returns-in_err-cursor
returns-in_err-cursor c = rw (exits c.from_residual.ensures.1) (search (rules, field-refused, c.in_err-cursor.was))

pub finish_item-requires : goal.finish_item-requires
finish_item-requires c =
    let (a, b, e) = after_push _ _ c.push.ensures c.in_ok-cursor.was c.requires.1 in
    (omega arith, a, omega arith, omega arith)

pub returns : goal.returns
returns c = search (rules, field-read, c.in_ok-cursor.was)
