-- `declarations::finish_member` meets its contract: a law for each return, found among the facts of its path.
use Rattle.codes.proofs.Onto.{exits}
use Rattle.declarations.proofs.Laws.{end-missing, member-more, member-last, member-full}
use borrow.Author.Rules.{rules}
use Rattle.declarations.proofs.finish_member.Goals as goal

pub returns-in_err-cursor-in-22 : goal.returns-in_err-cursor-in-22
returns-in_err-cursor-in-22 c =
    rw (exits c.from_residual.ensures.1) (search (rules, member-full, c.in_err-cursor-in-22.was))

pub returns-then-token-eq-Comma : goal.returns-then-token-eq-Comma
returns-then-token-eq-Comma c = search (rules, member-more, c.in_ok-cursor-in-22.was)

pub returns-else-token-eq-Comma : goal.returns-else-token-eq-Comma
returns-else-token-eq-Comma c = search (rules, member-last, c.in_ok-cursor-in-22.was)

pub returns-in_default : goal.returns-in_default
returns-in_default c = search (rules, end-missing)
