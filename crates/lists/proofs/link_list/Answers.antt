-- `lists::link_list` meets its contract: a law for each return, found among the facts of its path.
use Rattle.codes.proofs.Onto.{returned}
use Rattle.nodes.proofs.Bounds.{end-slots, end-root}
use Rattle.lists.proofs.Laws.{end_refused, link-read}
use borrow.Author.Rules.{rules}
use Rattle.lists.proofs.link_list.Goals as goal

pub returns-in_err-cursor : goal.returns-in_err-cursor
returns-in_err-cursor c = returned c.from_residual.ensures.1 (search (rules, end_refused, c.in_err-cursor.was))

pub push_list-requires : goal.push_list-requires
push_list-requires c = search (rules, end-slots, end-root, c.in_ok-cursor.was)

pub returns : goal.returns
returns c = search (rules, link-read, c.in_ok-cursor.was)
