-- The question of an input.
use Rattle.std.specs.Prelude.{ℕ, ◌≡◌, false, List}
use Rattle.codes.specs.Answer.{row}
use Rattle.penne_nodes.specs.declared.question.Entry.{Entry}
use Rattle.penne_nodes.specs.declared.question.Entry.TheVariants.{Expression, «Type»}
use Rattle.penne_nodes.specs.declared.question.Question.{Question}
use Rattle.rules.specs.Reading.{Rule}
use Rattle.rules.specs.Columns.{Nodes}
use Rattle.penne_nodes.specs.Input.{bad, asking, row_in, tokens_of, cursor_in, entry_of}

abbrev pub number_of : Entry → ℕ
number_of Expression = 0
number_of «Type» = 1

-- the rule of a question
abbrev pub rule_of : Question → Rule Nodes ℕ
rule_of question =
    asking (row question.row.kinds.now question.row.types.now) question.cursor.0 (number_of question.entry)

-- The question is that of the input, which is no bad file.
pub record Asks (bytes : List ℕ) (question : Question) : Type 0 where
  pub good : bad bytes ≡ false
  pub entry : number_of question.entry ≡ entry_of bytes
  pub row : row question.row.kinds.now question.row.types.now ≡ row_in bytes (tokens_of bytes)
  pub cursor : question.cursor.0 ≡ cursor_in bytes
