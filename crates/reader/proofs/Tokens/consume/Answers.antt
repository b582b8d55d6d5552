-- `reader::Tokens::consume` meets its contract: the answer of `Row::consume`, and the cursor one further.
use Rattle.reader.proofs.Laws.{expects}
use Rattle.reader.proofs.Tokens.consume.Goals as goal

pub returns-in-Ok : goal.returns-in-Ok
returns-in-Ok c = rw c.in-Ok.is at (expects c.args.self.now _ _ c.consume.ensures)

pub returns-in-Err : goal.returns-in-Err
returns-in-Err c = rw c.in-Err.is at (expects c.args.self.now _ _ c.consume.ensures)
