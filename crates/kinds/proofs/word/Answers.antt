use Rattle.std.proofs.Common.{rules}
use Rattle.kinds.proofs.Laws.{held}
use Rattle.kinds.proofs.word.Goals as goal

pub returns : goal.returns
returns c = search (rules, held)
