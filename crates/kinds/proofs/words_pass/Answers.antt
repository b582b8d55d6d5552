-- `kinds::words_pass` meets its contract: the words before the present one are put together, and their sums.
use Rattle.std.proofs.Common.{rules, lit<, refl, []}
use Rattle.kinds.proofs.Laws.{no-words, next_word, words-end}
use Rattle.kinds.proofs.words_pass.Goals as goal

pub loop-kinds-init : goal.loop-kinds-init
loop-kinds-init c = no-words c.args.limit 1

pub loop-kinds-preserved : goal.loop-kinds-preserved
loop-kinds-preserved c =
    next_word c.loop-kinds.invariant c.requires {lane = 0} (lit< tt) (lit< tt) c.word-word.ensures.holds
    c.word-word.ensures.size c.sum-sums.ensures [] _ _ refl c.loop-kinds-test.true refl

pub returns : goal.returns
returns c = search (rules, words-end)
