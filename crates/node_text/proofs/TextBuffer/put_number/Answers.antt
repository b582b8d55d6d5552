-- `node_text::TextBuffer::put_number` meets its contract: std's digits are the decimal text.
use Rattle.node_text.proofs.Texts.{digits-room, digits-put}
use Rattle.node_text.proofs.TextBuffer.put_number.Goals as goal

pub put_bytes-requires : goal.put_bytes-requires
put_bytes-requires c =
    digits-room c.args.number c.ranges.number.fits c.format.ensures.text c.as_bytes.ensures.value c.requires

pub returns : goal.returns
returns c =
    digits-put c.args.number c.ranges.number.fits c.format.ensures.text c.as_bytes.ensures.value c.put_bytes.ensures
