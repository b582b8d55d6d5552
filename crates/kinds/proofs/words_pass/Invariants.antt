-- `kinds::words_pass` meets its contract: the words before the present one are put together, and their sums.
use Rattle.std.proofs.Common.{[], ◌∷◌, take}
use Rattle.std.specs.List.{concat}
use Rattle.kinds.specs.Words.{Joined}
use Rattle.kinds.proofs.words_pass.Given as goal

abbrev pub invariant-loop-kinds : goal.invariant-loop-kinds
invariant-loop-kinds l = Joined l.limit (concat (take l.kinds-index l.words)) (l.tops ∷ []) (l.sums ∷ [])
