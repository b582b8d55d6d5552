-- `types::start_inner_type` meets its contract: a law for each return, found among the facts of its path.
use Rattle.types.proofs.Bounds.{next-token}
use Rattle.types.proofs.Laws.{pointer, view, begins, array-read, array-refused, returned-start, single, no-type}
use borrow.Author.Rules.{rules}
use Rattle.types.proofs.start_inner_type.Goals as goal

pub returns-in-Some : goal.returns-in-Some
returns-in-Some c = search (rules, single)

pub parse_array_size-requires : goal.parse_array_size-requires
parse_array_size-requires c = search (rules, next-token)

pub returns-in-10 : goal.returns-in-10
returns-in-10 c = search (rules, begins, pointer)

pub returns-in-1 : goal.returns-in-1
returns-in-1 c = search (rules, begins, view)

pub returns-in_err-cursor-in-5 : goal.returns-in_err-cursor-in-5
returns-in_err-cursor-in-5 c =
    returned-start _ _ _ _ _ _ c.from_residual.ensures.1 (search (rules, array-refused, c.in_err-cursor-in-5.was))

pub returns-in_ok-cursor-in-5 : goal.returns-in_ok-cursor-in-5
returns-in_ok-cursor-in-5 c = search (rules, array-read, c.in_ok-cursor-in-5.was)

pub returns-in_default-peek : goal.returns-in_default-peek
returns-in_default-peek c = search (rules, no-type)
