-- `references::parse_address` meets its contract: a law for each return, found among the facts of its path.
use native.Mathlib.Omega.{arith}
use borrow.Author.Rules.{rules}
use Rattle.references.proofs.Bounds.{ampersands-at}
use Rattle.codes.proofs.Onto.{exits}
use Rattle.references.proofs.Laws.{address-refused, address_unnamed, address_read}
use Rattle.references.proofs.parse_address.Goals as goal

pub returns-in_err-cursor : goal.returns-in_err-cursor
returns-in_err-cursor c =
    rw (exits c.from_residual.ensures.1) (search (rules, address-refused, c.in_err-cursor.was), tt)

pub consume-requires : goal.consume-requires
consume-requires c = search (rules, ampersands-at, c.in_ok-cursor.was)

pub returns-in_err-cursor-2 : goal.returns-in_err-cursor-2
returns-in_err-cursor-2 c =
    rw (exits c.from_residual-in_err-cursor-2.ensures.1)
    (search (rules, address_unnamed, c.in_ok-cursor.was, c.in_err-cursor-2.was), tt)

pub returns : goal.returns
returns c =
    let b = ampersands-at _ c.parse_ampersands.ensures.0 c.in_ok-cursor.was c.requires.0 c.requires.1 in
    (search (rules, address_read, c.in_ok-cursor.was, c.in_ok-cursor-2.was), (c.in_ok-cursor.ensures.1, omega arith))
