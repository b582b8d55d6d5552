-- `row_text::read_word`: the group's tokens stand after those before it, and what is left of the text gets shorter.
use Rattle.std.proofs.Common.{◌≤◌, length}
use Rattle.lines.specs.Line.{Within}
use Rattle.row_text.proofs.read_word.Given as goal

abbrev pub invariant-loop-rest : goal.invariant-loop-rest
invariant-loop-rest l = record {
  count : l.first ≤ l.tokens.count;
  rest : Within l.text l.rest;
}

abbrev pub decreases-loop-rest : goal.decreases-loop-rest
decreases-loop-rest l = length l.rest
