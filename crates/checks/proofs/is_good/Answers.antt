use Rattle.checks.proofs.Laws.{good-row}
use Rattle.std.proofs.Common.{arith}
use Rattle.checks.proofs.is_good.Goals as goal

pub returns-then-tokens : goal.returns-then-tokens
returns-then-tokens c = good-row _ _ (grind arith) (grind arith) (grind arith) c.tokens_pass.ensures
