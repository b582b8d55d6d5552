-- `kinds::join_words` meets its contract: the words before the present one are put together, and their sums.
use Rattle.std.proofs.Common.{arith, refl}
use Rattle.kinds.proofs.Laws.{next_word, lanes-end}
use Rattle.kinds.proofs.join_words.Goals as goal

pub loop-lane-preserved : goal.loop-lane-preserved
loop-lane-preserved c = λ row f.
    next_word (c.loop-lane.invariant row f) c.requires (omega arith) (omega arith) c.word-word.ensures.holds
    c.word-word.ensures.size c.sum.ensures row _ _ refl c.loop-lane-test.true refl

pub returns : goal.returns
returns c = λ row f.
    lanes-end row _ _ (c.loop-lane.invariant row f) c.loop-lane-test.false _ _ c.as_chunks.ensures.front (omega arith)
