use Rattle.node_text.proofs.Texts.{then}
use Rattle.node_text.proofs.TextBuffer.put_word.Goals as goal

pub returns : goal.returns
returns c = then c.put_bytes.ensures c.put_after.ensures
