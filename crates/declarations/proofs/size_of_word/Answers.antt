-- `declarations::size_of_word` meets its contract: a law for each return, found among the facts of its path.
use Rattle.declarations.proofs.Laws.{word_size, last-size, outside-words, one, two, four, eight}
use borrow.Author.Rules.{rules}
use Rattle.declarations.proofs.size_of_word.Goals as goal

pub returns-then-kind-lt-Word8 : goal.returns-then-kind-lt-Word8
returns-then-kind-lt-Word8 c = outside-words _ c.then-kind-lt-Word8.either

pub returns-in-47 : goal.returns-in-47
returns-in-47 c = search (rules, word_size, one)

pub returns-in-48 : goal.returns-in-48
returns-in-48 c = search (rules, word_size, two)

pub returns-in-49 : goal.returns-in-49
returns-in-49 c = search (rules, word_size, four)

pub returns-in-50 : goal.returns-in-50
returns-in-50 c = search (rules, word_size, eight)

pub returns-in_default : goal.returns-in_default
returns-in_default c = search (rules, last-size)
