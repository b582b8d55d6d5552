-- `types::parse_array_size` meets its contract: a law for each return, found among the facts of its path.
use Rattle.types.proofs.Sizes.{slice, endless, fixed, named, no_size, size-read, size-refused}
use borrow.Author.Rules.{rules}
use Rattle.types.proofs.parse_array_size.Goals as goal

pub returns-in-6 : goal.returns-in-6
returns-in-6 c = search (rules, no_size)

pub returns-in-19 : goal.returns-in-19
returns-in-19 c = search (rules, size-read, slice)

pub returns-in-32 : goal.returns-in-32
returns-in-32 c = search (rules, size-read, endless)

pub returns-in-55 : goal.returns-in-55
returns-in-55 c = search (rules, size-read, fixed)

pub returns-in-53 : goal.returns-in-53
returns-in-53 c = search (rules, size-read, named)

pub returns-in_default : goal.returns-in_default
returns-in_default c = search (rules, size-refused)
