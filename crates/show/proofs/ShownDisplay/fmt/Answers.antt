-- `show::Shown` is displayed as it says: the text of one more node is written.
use Rattle.std.proofs.Common.{ℕ, ◌+◌, ◌≡◌, List, [], ◌++◌, take, slice_get, Some}
use borrow.Author.Rules.{rules}
use Rattle.std.proofs.Output.{has_written_append, has_written_of_eq}
use Rattle.std.proofs.lemmas.List.{flat_map_more, take_more}
use Rattle.std.proofs.lemmas.Option.{slice_get_within, get_or_from_slice_get}
use Rattle.codes.specs.declared.Node.{Node}
use Rattle.show.specs.Shown.{node_text, nodes_text}
use Rattle.show.proofs.ShownDisplay.fmt.Goals as goal

more : (nodes : List Node) (i : ℕ) (n : Node) → slice_get nodes i ≡ Some n →
    nodes_text (take i nodes) ++ node_text n ≡ nodes_text (take (i + 1) nodes)
more nodes i n e =
    rw (take_more nodes i n (slice_get_within nodes i n e), get_or_from_slice_get nodes i n n e)
    (flat_map_more node_text [] (take i nodes) n)

pub loop-place-preserved : goal.loop-place-preserved
loop-place-preserved g c p =
    has_written_of_eq _ _ _ _ _ (more _ _ c.node-kind.result c.node-kind.ensures)
    (has_written_append _ _ _ _ _ _ (c.loop-place.invariant p) (search rules))
