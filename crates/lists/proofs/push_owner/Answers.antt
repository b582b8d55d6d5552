-- `lists::push_owner` meets its contract: a law for each return, found among the facts of its path.
use Rattle.lists.proofs.Laws.{call-read, elements-read}
use borrow.Author.Rules.{rules}
use Rattle.lists.proofs.push_owner.Goals as goal

pub returns-in-Call : goal.returns-in-Call
returns-in-Call c = search (rules, call-read)

pub returns-in-Elements : goal.returns-in-Elements
returns-in-Elements c = search (rules, elements-read)
