-- `penne::parse_type` meets its contract: an entry's laws, of its check and its reader.
use Rattle.penne.proofs.Entries.{type-entry, refused, sized, splits, followed}
use Rattle.penne.proofs.parse_type.Goals as goal

pub returns-in_err-passed : goal.returns-in_err-passed
returns-in_err-passed c =
    refused (type-entry _ _ _) _ _ c.passed.ensures _ _
    c.check_input-checked.ensures c.in_err-passed.was c.from_residual.ensures.1

pub parse_type-parsed-requires : goal.parse_type-parsed-requires
parse_type-parsed-requires c =
    sized (type-entry _ _ _) _ _ c.passed.ensures _ _
    c.check_input-checked.ensures c.in_ok-passed.was

pub split-requires : goal.split-requires
split-requires c =
    splits (type-entry _ _ _) _ _ c.passed.ensures _ _
    c.check_input-checked.ensures c.in_ok-passed.was
    c.parse_type-parsed.ensures c.node_count.ensures

pub returns : goal.returns
returns c =
    followed (type-entry _ _ _) _ _ c.passed.ensures _ _
    c.check_input-checked.ensures c.in_ok-passed.was
    c.parse_type-parsed.ensures c.node_count.ensures c.split.ensures
