use Rattle.node_text.proofs.Texts.{then}
use Rattle.node_text.proofs.TextBuffer.put_after.Goals as goal

pub returns : goal.returns
returns c = then c.put.ensures c.put_number.ensures
