-- `types::parse_inner_type` meets its contract: a law for each return, found among the facts of its path.
use Rattle.codes.proofs.Onto.{returned}
use Rattle.types.proofs.Bounds.{leaf-load, around-load, element-load, leaf-slots, at-element, element-fits}
use Rattle.types.proofs.Bounds.{around-slots, element-slots, element-at}
use Rattle.types.proofs.Laws.{too-deep, refused, leaf-read, element-short, element-stopped, element-read}
use borrow.Author.Rules.{rules}
use Rattle.types.proofs.+parse_inner_type.Goals as goal

pub returns-then-unused-eq0 : goal.returns-then-unused-eq0
returns-then-unused-eq0 t c = search (rules, too-deep)

pub returns-in_err-cursor : goal.returns-in_err-cursor
returns-in_err-cursor t c = returned c.from_residual.ensures.1 (search (rules, refused, c.in_err-cursor.was))

pub push-requires : goal.push-requires
push-requires t c = (search (rules, leaf-slots, c.in_ok-cursor.was), search (rules, leaf-load, c.in_ok-cursor.was))

pub returns-in-Leaf : goal.returns-in-Leaf
returns-in-Leaf t c = search (rules, leaf-read, c.in_ok-cursor.was)

pub enclose-requires : goal.enclose-requires
enclose-requires t c = (
  search (rules, around-slots, c.in_ok-cursor.was),
  search (rules, element-fits, c.in_ok-cursor.was),
  search (rules, element-load, c.in_ok-cursor.was),
  search (rules, around-load, c.in_ok-cursor.was),
)

pub returns-in-Around : goal.returns-in-Around
returns-in-Around t c = search (rules, element-short, c.in_ok-cursor.was)

pub parse_inner_type-requires : goal.parse_inner_type-requires
parse_inner_type-requires t c = (search rules, search (rules, at-element, c.in_ok-cursor.was))

pub returns-in_err-inner-in-Around : goal.returns-in_err-inner-in-Around
returns-in_err-inner-in-Around t c =
    returned c.from_residual-in_err-inner-in-Around.ensures.1
    (search (rules, element-stopped, c.in_ok-cursor.was, c.in_err-inner-in-Around.was))

pub finish_inner_type-requires : goal.finish_inner_type-requires
finish_inner_type-requires t c = (
  search (rules, element-slots, c.in_ok-cursor.was, c.in_ok-inner-in-Around.was),
  search (rules, element-at, c.in_ok-cursor.was, c.in_ok-inner-in-Around.was),
  search (rules, around-load, c.in_ok-cursor.was),
)

pub returns-in_ok-inner-in-Around : goal.returns-in_ok-inner-in-Around
returns-in_ok-inner-in-Around t c = search (rules, element-read, c.in_ok-cursor.was, c.in_ok-inner-in-Around.was)
