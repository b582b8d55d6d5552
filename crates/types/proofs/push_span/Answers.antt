-- `types::push_span` meets its contract: the span is two nodes.
use Rattle.nodes.specs.Answer.{append_two}
use Rattle.types.specs.Answer.{spanning}
use borrow.Author.Rules.{rules}
use Rattle.types.proofs.push_span.Goals as goal

pub returns : goal.returns
unfolding spanning append_two
returns c = search rules
