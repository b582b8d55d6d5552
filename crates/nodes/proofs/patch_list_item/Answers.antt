-- `nodes::patch_list_item` meets its contract: what is stored is the node's word.
use Rattle.nodes.proofs.Laws.{stored}
use borrow.Author.Rules.{rules}
use Rattle.nodes.proofs.patch_list_item.Goals as goal

pub returns : goal.returns
returns c = search (rules, stored)
