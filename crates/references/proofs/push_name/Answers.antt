-- `references::push_name` meets its contract: a reference whose list is empty.
use Rattle.nodes.proofs.Laws.{past-none}
use Rattle.references.proofs.Laws.{name-read}
use borrow.Author.Rules.{rules}
use Rattle.references.proofs.push_name.Goals as goal

pub push_deref-requires : goal.push_deref-requires
push_deref-requires c = search (rules, past-none)

pub returns : goal.returns
returns c = search (rules, name-read)
