-- `row_text::read_tokens`: what is left of the text is its end, and gets shorter.
use Rattle.std.proofs.Common.{length}
use Rattle.lines.specs.Line.{Within}
use Rattle.row_text.proofs.read_tokens.Given as goal

abbrev pub invariant-loop-rest : goal.invariant-loop-rest
invariant-loop-rest l = record {
  rest : Within l.words l.rest;
}

abbrev pub decreases-loop-rest : goal.decreases-loop-rest
decreases-loop-rest l = length l.rest
