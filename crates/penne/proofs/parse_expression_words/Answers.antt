-- `penne::parse_expression_words` meets its contract: an entry's laws, of its check and its reader.
use Rattle.penne.proofs.Entries.{expression-entry, words-refused, words-sized, words-followed}
use Rattle.penne.proofs.parse_expression_words.Goals as goal

pub returns-in_err-passed : goal.returns-in_err-passed
returns-in_err-passed c =
    words-refused (expression-entry _ _ _) _ _ c.passed.ensures _
    c.check_input-checked.ensures c.in_err-passed.was c.from_residual.ensures.1

pub parse_expression-requires : goal.parse_expression-requires
parse_expression-requires c =
    words-sized (expression-entry _ _ _) _ _ c.passed.ensures _
    c.check_input-checked.ensures c.in_ok-passed.was

pub returns : goal.returns
returns c =
    words-followed (expression-entry _ _ _) _ _ c.passed.ensures _
    c.check_input-checked.ensures c.in_ok-passed.was c.parse_expression.ensures
