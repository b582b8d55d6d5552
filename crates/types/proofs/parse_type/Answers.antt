-- `types::parse_type` meets its contract: a law for each return, found among the facts of its path.
use Rattle.types.proofs.Bounds.{short-fits}
use Rattle.types.proofs.Laws.{short-read}
use borrow.Author.Rules.{rules}
use Rattle.types.proofs.parse_type.Goals as goal

pub push-requires : goal.push-requires
push-requires c = (search rules, search (rules, short-fits))

pub returns : goal.returns
returns c = search (rules, short-read)
