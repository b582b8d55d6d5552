-- `kinds::none_above` meets its contract: a column is its words and its rest.
use Rattle.std.proofs.Common.{rules}
use Rattle.kinds.proofs.Laws.{chunks-pass, chunks-fail}
use Rattle.kinds.proofs.none_above.Goals as goal

pub returns-then-words_pass : goal.returns-then-words_pass
returns-then-words_pass c = search (rules, chunks-pass)

pub returns-else-words_pass : goal.returns-else-words_pass
returns-else-words_pass c = search (rules, chunks-fail)
