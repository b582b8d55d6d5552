-- `node_text::TextBuffer::put_nodes` meets its contract: the loop has put the lines of the first nodes, and has room for
-- the others.
use Rattle.std.proofs.Common.{arith}
use Rattle.node_text.proofs.Texts.{no_lines, lines-put, line-room, lines-room, less-room, all_lines}
use Rattle.node_text.proofs.TextBuffer.put_nodes.Goals as goal

pub loop-number-init : goal.loop-number-init
loop-number-init c = (no_lines _ _, less-room c.requires.room (omega arith))

pub put_node-requires : goal.put_node-requires
put_node-requires c = line-room _ c.loop-number-test.true c.loop-number.invariant.1 _ _

pub loop-number-preserved : goal.loop-number-preserved
loop-number-preserved c = (
  lines-put _ _ _ _ c.loop-number.invariant.0 c.put_node.ensures,
  lines-room _ c.loop-number-test.true c.loop-number.invariant.1 _ _ c.put_node.ensures.puts,
)

pub returns : goal.returns
returns c = all_lines _ c.loop-number.auto.number-end c.loop-number-test.false c.loop-number.invariant.0
