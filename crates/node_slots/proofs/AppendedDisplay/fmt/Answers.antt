-- `node_slots::Appended` is displayed as it says: by whether there are many nodes.
use Rattle.std.proofs.Common.{ℕ, ◌≤◌, ◌<◌, ◌≡◌, refl, ap, List, ◌++◌, length, take, codes, decimal, arith}
use borrow.Author.Rules.{rules}
use borrow.Author.Tests.{le-ltb, lt-ltb}
use Rattle.std.proofs.Output.{has_written_of_eq}
use Rattle.std.proofs.lemmas.List.{take_all}
use Rattle.codes.specs.declared.Node.{Node}
use Rattle.show.specs.Shown.{nodes_text}
use Rattle.node_slots.specs.Appended.{text_of}
use Rattle.node_slots.proofs.AppendedDisplay.fmt.Goals as goal

module _ (nodes : List Node) (sum count : ℕ) (e : count ≡ length nodes) where
  few : count ≤ 512 → nodes_text (take count nodes) ≡ text_of nodes sum
  few h = rw (le-ltb 512 (length nodes) (omega arith)) (ap nodes_text (take_all count nodes (omega arith)))

  many : 512 < count → codes ", nodes " ++ (decimal count ++ (codes ", checksum " ++ decimal sum)) ≡ text_of nodes sum
  many h = rw (e, lt-ltb 512 (length nodes) (omega arith)) refl

pub returns-then-count-le-MOST_PRINTED-clause-writes :
    goal.returns-then-count-le-MOST_PRINTED-clause-writes
returns-then-count-le-MOST_PRINTED-clause-writes g c p ok =
    has_written_of_eq _ _ _ _ _ (few _ _ c.count-count.result c.count-count.ensures c.if-count-le-MOST_PRINTED.true) (search rules)

pub returns-else-count-le-MOST_PRINTED-clause-writes :
    goal.returns-else-count-le-MOST_PRINTED-clause-writes
returns-else-count-le-MOST_PRINTED-clause-writes g c p ok =
    has_written_of_eq _ _ _ _ _ (many _ _ c.count-count.result c.count-count.ensures c.if-count-le-MOST_PRINTED.false) (search rules)
