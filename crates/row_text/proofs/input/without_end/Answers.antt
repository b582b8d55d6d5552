use Rattle.std.proofs.Common.{rules}
use Rattle.row_text.proofs.Lines.{whole-line, cut-line}
use Rattle.row_text.proofs.input.without_end.Goals as goal

pub returns : goal.returns
returns c = search (rules, whole-line, cut-line)
