-- `references::parse_member` meets its contract: a law for each return, found among the facts of its path.
use native.Mathlib.Omega.{arith}
use Rattle.nodes.proofs.Bounds.{after_push}
use Rattle.codes.proofs.Onto.{exits}
use Rattle.references.proofs.Laws.{member-unnamed, member-refused, member-listed}
use borrow.Author.Rules.{rules}
use Rattle.references.proofs.parse_member.Goals as goal

pub returns-in_err-cursor : goal.returns-in_err-cursor
returns-in_err-cursor c = rw (exits c.from_residual.ensures.1) (search (rules, member-unnamed, c.in_err-cursor.was))

pub push-requires : goal.push-requires
push-requires c = search rules

pub returns-in_err-cursor-2 : goal.returns-in_err-cursor-2
returns-in_err-cursor-2 c =
    rw (exits c.from_residual-in_err-cursor-2.ensures.1)
    (search (rules, member-refused, c.in_ok-cursor.was, c.in_err-cursor-2.was))

pub push_list_item-requires : goal.push_list_item-requires
push_list_item-requires c =
    let (a, b, _) = after_push _ _ c.push.ensures c.in_ok-cursor-2.was c.requires.1 in
    (a, omega arith)

pub returns : goal.returns
returns c = search (rules, member-listed, c.in_ok-cursor.was, c.in_ok-cursor-2.was)
