-- `lines::number` meets what it asks of its callees: what the first digits are.
use borrow.Author.Rules.{rules}
use Rattle.std.proofs.lemmas.List.Sums.{prefix_len-le-length}
use Rattle.lines.proofs.Laws.{digits-pass}
use Rattle.lines.proofs.number.Goals as goal

pub split_at-requires : goal.split_at-requires
split_at-requires c = search (rules, prefix_len-le-length)

pub value_of-requires : goal.value_of-requires
value_of-requires c = search (rules, digits-pass)
