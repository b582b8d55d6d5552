-- `show::Shown` is displayed as it says: the text of the nodes before the present one is written.
use Rattle.std.proofs.Common.{take}
use Rattle.std.specs.Fmt.{HasWritten, IsPlainFormatter}
use Rattle.show.specs.Shown.{nodes_text}
use Rattle.show.proofs.ShownDisplay.fmt.Given as goal

abbrev pub invariant-loop-place : goal.invariant-loop-place
invariant-loop-place g l =
    IsPlainFormatter l.initial.f → HasWritten g.W.Write.write_str_gives l.initial.f (nodes_text (take l.place (g.N.Nodes.listed l.self.nodes))) l.f
