-- `kinds::join_words` meets its contract: the words before the present one are put together, and their sums.
use Rattle.std.proofs.Common.{ℕ, List, take, ◌++◌}
use Rattle.std.specs.List.{concat}
use Rattle.kinds.specs.Words.{Joined}
use Rattle.kinds.proofs.join_words.Given as goal

abbrev pub invariant-loop-lane : goal.invariant-loop-lane
invariant-loop-lane l =
    (row : List ℕ) → Joined l.limit row l.initial.tops l.initial.sums →
    Joined l.limit (row ++ concat (take l.lane l.words)) l.tops l.sums
