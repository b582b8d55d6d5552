-- `penne::split` meets its contract: the nodes before the present one are split.
use Rattle.penne.specs.Answer.{Split}
use Rattle.penne.proofs.split.Given as goal

abbrev pub invariant-loop-place : goal.invariant-loop-place
invariant-loop-place l = Split l.first l.place l.initial.node_kinds l.initial.node_loads l.node_kinds l.node_loads
