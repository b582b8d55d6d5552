-- `penne_nodes::question::size` meets its contract.
use Rattle.std.proofs.Common.{arith}
use Rattle.penne_nodes.specs.Input.{size_at}
use Rattle.penne_nodes.proofs.question.size.Goals as goal

pub returns : goal.returns
unfolding size_at
returns c = omega arith
