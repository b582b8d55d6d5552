-- `node_text::TextBuffer::put_reply` meets its contract: by the reply's case.
use Rattle.node_text.proofs.Texts.{root-room, accepted-state-room, accepted-put}
use Rattle.node_text.proofs.Texts.{number-room, ends-room, refused-state-room, refused-put}
use Rattle.node_text.proofs.TextBuffer.put_reply.Goals as goal

pub put_word-requires : goal.put_word-requires
put_word-requires c = root-room c.in-Ok.read c.requires

pub put_state-requires : goal.put_state-requires
put_state-requires c = accepted-state-room c.in-Ok.read c.requires c.put_word.ensures.puts

pub returns-in-Ok : goal.returns-in-Ok
returns-in-Ok c = accepted-put _ c.in-Ok.is c.put_word.ensures c.put_state.ensures

pub put_word-requires-in-Err : goal.put_word-requires-in-Err
put_word-requires-in-Err c = number-room c.in-Err.error c.requires

pub put_two-requires : goal.put_two-requires
put_two-requires c = ends-room c.in-Err.error c.requires c.put_word-in-Err.ensures.puts

pub put_state-requires-in-Err : goal.put_state-requires-in-Err
put_state-requires-in-Err c =
    refused-state-room c.in-Err.error c.requires c.put_word-in-Err.ensures.puts c.put_two.ensures.puts

pub returns-in-Err : goal.returns-in-Err
returns-in-Err c =
    refused-put _ c.in-Err.is c.put_word-in-Err.ensures c.put_two.ensures c.put_state-in-Err.ensures
