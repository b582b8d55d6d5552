use Rattle.literals.proofs.Laws.{naked-read, char, boolean, literal-read, typed-read, joined-read}
use Rattle.rules.specs.Reading.{◌>>=◌, here, take, choose}
use Rattle.rules.specs.Expressions.{primary}
use borrow.Author.Rules.{rules}
use Rattle.literals.proofs.parse_literal.Goals as goal

pub returns-in-55 : goal.returns-in-55
returns-in-55 c = search (rules, naked-read)

pub returns-in-57 : goal.returns-in-57
returns-in-57 c = search (rules, typed-read)

pub returns-in-58 : goal.returns-in-58
returns-in-58 c = search (rules, literal-read, char)

pub returns-in-59 : goal.returns-in-59
returns-in-59 c = search (rules, literal-read, boolean)

pub returns-in-60 : goal.returns-in-60
returns-in-60 c = search (rules, joined-read)

pub returns-in_default : goal.returns-in_default
unfolding primary ◌>>=◌ here take choose
returns-in_default c = search rules

pub returns-in_default-2 : goal.returns-in_default-2
unfolding primary ◌>>=◌ here take choose
returns-in_default-2 c = search rules
