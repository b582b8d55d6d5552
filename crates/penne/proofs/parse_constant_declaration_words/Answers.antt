-- `penne::parse_constant_declaration_words` meets its contract: an entry's laws, of its check and its reader.
use Rattle.penne.proofs.Entries.{constant-entry, words-refused, declaration-fits, words-sized, words-followed}
use Rattle.penne.proofs.parse_constant_declaration_words.Goals as goal

pub returns-in_err-passed : goal.returns-in_err-passed
returns-in_err-passed c =
    words-refused (constant-entry _ _ _ _ _) _ _ c.passed.ensures _
    c.check_declaration-checked.ensures c.in_err-passed.was c.from_residual.ensures.1

pub invariant_of-declaration : goal.invariant_of-declaration
invariant_of-declaration c =
    declaration-fits c.args.kinds.now c.args.types.now _ _ _ c.passed.ensures
    c.args.node_words.now c.args.node_words.now _ _
    c.check_declaration-checked.ensures c.in_ok-passed.was

pub parse_constant_declaration-requires : goal.parse_constant_declaration-requires
parse_constant_declaration-requires c =
    words-sized (constant-entry _ _ _ _ _) _ _ c.passed.ensures _
    c.check_declaration-checked.ensures c.in_ok-passed.was

pub returns : goal.returns
returns c =
    words-followed (constant-entry _ _ _ _ _) _ _ c.passed.ensures _
    c.check_declaration-checked.ensures c.in_ok-passed.was c.parse_constant_declaration.ensures
