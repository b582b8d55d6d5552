-- `lists::finish_shorthand` meets its contract: a law for each return, found among the facts of its path.
use native.Mathlib.Omega.{arith}
use Rattle.codes.proofs.Onto.{exits}
use Rattle.references.proofs.Bounds.{after-name}
use Rattle.lists.proofs.Laws.{shorthand-refused, shorthand-read}
use borrow.Author.Rules.{rules}
use Rattle.lists.proofs.finish_shorthand.Goals as goal

pub returns-in_err-cursor : goal.returns-in_err-cursor
returns-in_err-cursor c =
    rw (exits c.from_residual.ensures.1) (search (rules, shorthand-refused, c.in_err-cursor.was))

pub finish_field-requires : goal.finish_field-requires
finish_field-requires c =
    let (a, b, e) = after-name _ c.push_name.ensures c.in_ok-cursor.was c.requires.1 in
    (omega arith, a, omega arith, omega arith, omega arith)

pub returns : goal.returns
returns c = search (rules, shorthand-read, c.in_ok-cursor.was)
