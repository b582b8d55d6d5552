-- `kinds::rest_tokens_pass` meets its contract: the kinds decide, and then the value types.
use Rattle.std.proofs.Common.{rules}
use Rattle.kinds.proofs.Laws.{one-fails, both_told}
use Rattle.kinds.proofs.rest_tokens_pass.Goals as goal

pub returns-then-none_above : goal.returns-then-none_above
returns-then-none_above c = search (rules, both_told)

pub returns-else-none_above : goal.returns-else-none_above
returns-else-none_above c = search (rules, one-fails)
