-- `reader::consume_end` meets its contract: an optional comma, and then the token that closes the list.
use Rattle.codes.proofs.Onto.{exits}
use Rattle.reader.proofs.Laws.{tried-within, ends}
use Rattle.reader.proofs.consume_end.Goals as goal

pub consume-requires : goal.consume-requires
consume-requires c = tried-within c.consume_optional.ensures (rw c.new-tokens.ensures.1 c.requires)

pub returns-in_err-consume : goal.returns-in_err-consume
returns-in_err-consume c =
    rw (exits c.from_residual.ensures.1, ← c.new-tokens.ensures.0, ← c.new-tokens.ensures.1)
    (rw c.in_err-consume.was at (ends _ c.args.count c.consume_optional.ensures c.consume.ensures))

pub returns : goal.returns
returns c =
    rw (← c.new-tokens.ensures.0, ← c.new-tokens.ensures.1)
    (rw c.in_ok-consume.was at (ends _ c.args.count c.consume_optional.ensures c.consume.ensures))
