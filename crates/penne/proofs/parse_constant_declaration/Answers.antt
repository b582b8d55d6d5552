-- `penne::parse_constant_declaration` meets its contract: an entry's laws, of its check and its reader.
use Rattle.penne.proofs.Entries.{constant-entry, refused, declaration-fits, sized, splits, followed}
use Rattle.penne.proofs.parse_constant_declaration.Goals as goal

pub returns-in_err-passed : goal.returns-in_err-passed
returns-in_err-passed c =
    refused (constant-entry _ _ _ _ _) _ _ c.passed.ensures _ _
    c.check_declaration-checked.ensures c.in_err-passed.was c.from_residual.ensures.1

pub invariant_of-declaration : goal.invariant_of-declaration
invariant_of-declaration c =
    declaration-fits c.args.kinds.now c.args.types.now _ _ _ c.passed.ensures
    c.args.node_kinds.now c.args.node_loads.now _ _
    c.check_declaration-checked.ensures c.in_ok-passed.was

pub parse_constant_declaration-parsed-requires : goal.parse_constant_declaration-parsed-requires
parse_constant_declaration-parsed-requires c =
    sized (constant-entry _ _ _ _ _) _ _ c.passed.ensures _ _
    c.check_declaration-checked.ensures c.in_ok-passed.was

pub split-requires : goal.split-requires
split-requires c =
    splits (constant-entry _ _ _ _ _) _ _ c.passed.ensures _ _
    c.check_declaration-checked.ensures c.in_ok-passed.was
    c.parse_constant_declaration-parsed.ensures c.node_count.ensures

pub returns : goal.returns
returns c =
    followed (constant-entry _ _ _ _ _) _ _ c.passed.ensures _ _
    c.check_declaration-checked.ensures c.in_ok-passed.was
    c.parse_constant_declaration-parsed.ensures c.node_count.ensures c.split.ensures
