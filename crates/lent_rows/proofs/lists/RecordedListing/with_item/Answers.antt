-- An item by the lent record meets its contract: a law for each return.
use Rattle.codes.proofs.Onto.{exits}
use Rattle.lent_rows.proofs.Items.{record-refused, record-fits, record-read, record-kept}
use Rattle.lent_rows.proofs.lists.RecordedListing.with_item.Goals as goal

pub append_to-reply-requires : goal.append_to-reply-requires
append_to-reply-requires c = (c.requires.0.slots, c.requires.1)

pub returns-in_err-cursor : goal.returns-in_err-cursor
returns-in_err-cursor c =
    rw (exits c.from_residual.ensures.1) (record-refused _ c.append_to-reply.ensures c.in_err-cursor.was)

pub append_item_to-reply-requires : goal.append_item_to-reply-requires
append_item_to-reply-requires c = record-fits _ c.append_to-reply.ensures c.in_ok-cursor.was c.requires.0

pub returns-in_err-item : goal.returns-in_err-item
returns-in_err-item c =
    rw (exits c.from_residual-in_err-item.ensures.1)
    (rw c.in_err-item.was at (record-read _ c.append_to-reply.ensures c.in_ok-cursor.was c.requires.0
    c.append_item_to-reply.ensures))

pub returns : goal.returns
returns c =
    record-kept _ c.append_to-reply.ensures c.in_ok-cursor.was c.requires.0 c.append_item_to-reply.ensures c.in_ok-item.was
