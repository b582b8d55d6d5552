-- `node_text::TextBuffer::put_nodes` meets its contract: the loop has put the lines of the first nodes, and has room for
-- the others.
use Rattle.std.proofs.Common.{◌-◌, ◌*◌}
use Rattle.codes.specs.Answer.{nodes}
use Rattle.node_text.specs.Puts.{Adds, HasRoom}
use Rattle.node_text.specs.Text.{lines}
use Rattle.node_text.proofs.TextBuffer.put_nodes.Given as goal

abbrev pub invariant-loop-number : goal.invariant-loop-number
invariant-loop-number l =
    Adds l.initial.self (lines (nodes l.node_kinds l.node_loads l.count) l.number) l.self
    × HasRoom l.self (33 * (l.count - l.number))
