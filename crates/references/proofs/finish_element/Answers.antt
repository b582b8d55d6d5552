-- `references::finish_element` meets its contract: a law for each return, found among the facts of its path.
use mathlib.Core.Path.{refl}
use native.Mathlib.Omega.{arith}
use Rattle.references.proofs.Bounds.{after-closed}
use Rattle.codes.proofs.Onto.{exits}
use Rattle.references.proofs.Laws.{element-refused, element-listed}
use borrow.Author.Rules.{rules}
use Rattle.references.proofs.finish_element.Goals as goal

pub returns-in_err-cursor : goal.returns-in_err-cursor
returns-in_err-cursor c = rw (exits c.from_residual.ensures.1) (search (rules, element-refused, c.in_err-cursor.was))

pub push_list_item-requires : goal.push_list_item-requires
push_list_item-requires c =
    let (a, b, _) = after-closed _ _ _ c.push_closed.ensures c.in_ok-cursor.was refl c.requires.1 in (a, omega arith)

pub returns : goal.returns
returns c = search (rules, element-listed, c.in_ok-cursor.was)
