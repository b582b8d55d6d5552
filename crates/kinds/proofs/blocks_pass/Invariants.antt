-- `kinds::blocks_pass` meets its contract: the tokens before the present ones are known by their words and their value types.
use Rattle.std.proofs.Common.{◌≡◌, length, take}
use Rattle.std.specs.List.{concat}
use Rattle.kinds.specs.Above.{Alike}
use Rattle.kinds.specs.Words.{Joined}
use Rattle.kinds.proofs.blocks_pass.Given as goal

abbrev pub invariant-loop-block : goal.invariant-loop-block
invariant-loop-block l =
    (length l.tops ≡ 4) × (length l.sums ≡ 4) × Alike l.most (concat (take l.block l.types))
    × Joined l.limit (concat (take l.block l.kinds)) l.tops l.sums
