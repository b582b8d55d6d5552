-- `lines::after` meets its contract: the library compares the letters as the rule does.
use Rattle.lines.proofs.Laws.{after-none, after-some}
use Rattle.std.proofs.Common.{arith}
use Rattle.std.proofs.lemmas.Grind.{common_steps}
use Rattle.lines.proofs.after.Goals as goal

pub returns-clause-is : goal.returns-clause-is
returns-clause-is c = grind (arith, common_steps, after-none, after-some)
