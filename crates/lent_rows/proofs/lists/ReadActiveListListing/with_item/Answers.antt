-- An item by the core meets its contract: a law for each return.
use Rattle.codes.proofs.Onto.{exits}
use Rattle.lent_rows.proofs.Items.{content-refused, content-read, core-slots, core-last, seen-same}
use Rattle.lent_rows.proofs.lists.ReadActiveListListing.with_item.Goals as goal

pub push-requires : goal.push-requires
push-requires c = (c.requires.0.slots, c.requires.1)

pub returns-in_err-cursor : goal.returns-in_err-cursor
returns-in_err-cursor c =
    rw (exits c.from_residual.ensures.1) (content-refused _ c.args.self c.push.ensures c.in_err-cursor.was)

pub push_list_item-requires : goal.push_list_item-requires
push_list_item-requires c = (
  core-slots _ c.args.self c.push.ensures c.in_ok-cursor.was c.requires.0,
  core-last _ c.args.self c.push.ensures c.in_ok-cursor.was c.requires.0,
)

pub returns : goal.returns
returns c =
    rw (seen-same c.push_list_item.result)
    (content-read _ c.args.self c.push.ensures c.in_ok-cursor.was c.requires.0 c.push_list_item.ensures)
