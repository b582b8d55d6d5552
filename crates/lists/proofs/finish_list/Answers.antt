-- `lists::finish_list` meets its contract: a law for each return, found among the facts of its path.
use Rattle.codes.proofs.Onto.{returned}
use Rattle.lists.proofs.Laws.{list-refused, list_read}
use Rattle.lists.proofs.Bounds.{link-slots}
use borrow.Author.Rules.{rules}
use Rattle.lists.proofs.finish_list.Goals as goal

pub returns-in_err-cursor : goal.returns-in_err-cursor
returns-in_err-cursor c = returned c.from_residual.ensures.1 (search (rules, list-refused, c.in_err-cursor.was))

pub push_owner-requires : goal.push_owner-requires
push_owner-requires c = (search (rules, link-slots, c.in_ok-cursor.was), search rules, search rules)

pub returns : goal.returns
returns c = search (rules, list_read, c.in_ok-cursor.was)
