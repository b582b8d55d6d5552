-- `kinds::tokens_pass` meets its contract: a row is its turns and its rest.
use Rattle.std.proofs.Common.{rules}
use Rattle.kinds.proofs.Laws.{tokens-pass, tokens-fail}
use Rattle.kinds.proofs.tokens_pass.Goals as goal

pub returns-then-blocks_pass : goal.returns-then-blocks_pass
returns-then-blocks_pass c = search (rules, tokens-pass)

pub returns-else-blocks_pass : goal.returns-else-blocks_pass
returns-else-blocks_pass c = search (rules, tokens-fail)
