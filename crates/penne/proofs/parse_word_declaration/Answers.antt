-- `penne::parse_word_declaration` meets its contract: an entry's laws, of its check and its reader.
use Rattle.penne.proofs.Entries.{word-entry, refused, word-fits, sized, splits, followed}
use Rattle.penne.proofs.parse_word_declaration.Goals as goal

pub returns-in_err-passed : goal.returns-in_err-passed
returns-in_err-passed c =
    refused (word-entry _ _ _ _ _ _) _ _ c.passed.ensures _ _
    c.check_word_declaration-checked.ensures c.in_err-passed.was c.from_residual.ensures.1

pub invariant_of-declaration : goal.invariant_of-declaration
invariant_of-declaration c =
    word-fits c.args.kinds.now c.args.types.now _ _ _ c.passed.ensures
    c.args.node_kinds.now c.args.node_loads.now _ _ c.args.declaring_token
    c.check_word_declaration-checked.ensures c.in_ok-passed.was

pub parse_word_declaration-parsed-requires : goal.parse_word_declaration-parsed-requires
parse_word_declaration-parsed-requires c =
    sized (word-entry _ _ _ _ _ c.args.declaring_token) _ _ c.passed.ensures _ _
    c.check_word_declaration-checked.ensures c.in_ok-passed.was

pub split-requires : goal.split-requires
split-requires c =
    splits (word-entry _ _ _ _ _ _) _ _ c.passed.ensures _ _
    c.check_word_declaration-checked.ensures c.in_ok-passed.was
    c.parse_word_declaration-parsed.ensures c.node_count.ensures

pub returns : goal.returns
returns c =
    followed (word-entry _ _ _ _ _ _) _ _ c.passed.ensures _ _
    c.check_word_declaration-checked.ensures c.in_ok-passed.was
    c.parse_word_declaration-parsed.ensures c.node_count.ensures c.split.ensures
