-- `node_text::TextBuffer::put_state` meets its contract: by the laws of texts one after the other.
use Rattle.node_text.specs.Text.{two, newline}
use Rattle.node_text.proofs.Texts.{then, first-room, next-room}
use Rattle.node_text.proofs.TextBuffer.put_state.Goals as goal

pub put_two-requires : goal.put_two-requires
put_two-requires c = first-room (two c.args.cursor.0 c.args.count) newline c.requires

pub put-requires : goal.put-requires
put-requires c = next-room (two c.args.cursor.0 c.args.count) newline c.requires c.put_two.ensures.puts

pub returns : goal.returns
returns c = then c.put_two.ensures c.put.ensures
