-- `penne::parse_expression` meets its contract: an entry's laws, of its check and its reader.
use Rattle.penne.proofs.Entries.{expression-entry, refused, sized, splits, followed}
use Rattle.penne.proofs.parse_expression.Goals as goal

pub returns-in_err-passed : goal.returns-in_err-passed
returns-in_err-passed c =
    refused (expression-entry _ _ _) _ _ c.passed.ensures _ _
    c.check_input-checked.ensures c.in_err-passed.was c.from_residual.ensures.1

pub parse_expression-parsed-requires : goal.parse_expression-parsed-requires
parse_expression-parsed-requires c =
    sized (expression-entry _ _ _) _ _ c.passed.ensures _ _
    c.check_input-checked.ensures c.in_ok-passed.was

pub split-requires : goal.split-requires
split-requires c =
    splits (expression-entry _ _ _) _ _ c.passed.ensures _ _
    c.check_input-checked.ensures c.in_ok-passed.was
    c.parse_expression-parsed.ensures c.node_count.ensures

pub returns : goal.returns
returns c =
    followed (expression-entry _ _ _) _ _ c.passed.ensures _ _
    c.check_input-checked.ensures c.in_ok-passed.was
    c.parse_expression-parsed.ensures c.node_count.ensures c.split.ensures
