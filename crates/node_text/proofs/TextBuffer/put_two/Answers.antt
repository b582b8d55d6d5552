use Rattle.node_text.specs.Text.{byte_number, two}
use Rattle.node_text.proofs.Texts.{then, first-room, next-room}
use Rattle.node_text.proofs.TextBuffer.put_two.Goals as goal

pub put_after-requires : goal.put_after-requires
unfolding two
put_after-requires c = first-room (byte_number 32 c.args.first) (byte_number 32 c.args.second) c.requires

pub put_after-requires-2 : goal.put_after-requires-2
unfolding two
put_after-requires-2 c =
    next-room (byte_number 32 c.args.first) (byte_number 32 c.args.second) c.requires c.put_after.ensures.puts

pub returns : goal.returns
unfolding two
returns c = then c.put_after.ensures c.put_after-2.ensures
