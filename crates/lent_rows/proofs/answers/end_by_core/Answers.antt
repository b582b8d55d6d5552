-- `lent_rows::answers::end_by_core` meets its contract: the same law as the reader's.
use Rattle.reader.proofs.Laws.{ends-core, optional-within}
use Rattle.lent_rows.proofs.Items.{next_is}
use Rattle.lent_rows.proofs.answers.end_by_core.Goals as goal

pub consume-requires : goal.consume-requires
consume-requires c =
    rw (c.unwrap_or-cursor.ensures, next_is c.consume_optional.result c.args.cursor)
    (optional-within c.consume_optional.ensures c.requires)

pub returns : goal.returns
returns c =
    ends-core _ c.consume_optional.ensures
    (rw (c.unwrap_or-cursor.ensures, next_is c.consume_optional.result c.args.cursor) at c.consume.ensures)
