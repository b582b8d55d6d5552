-- `penne::parse_word_declaration_words` meets its contract: an entry's laws, of its check and its reader.
use Rattle.penne.proofs.Entries.{word-entry, words-refused, word-fits, words-sized, words-followed}
use Rattle.penne.proofs.parse_word_declaration_words.Goals as goal

pub returns-in_err-passed : goal.returns-in_err-passed
returns-in_err-passed c =
    words-refused (word-entry _ _ _ _ _ _) _ _ c.passed.ensures _
    c.check_word_declaration-checked.ensures c.in_err-passed.was c.from_residual.ensures.1

pub invariant_of-declaration : goal.invariant_of-declaration
invariant_of-declaration c =
    word-fits c.args.kinds.now c.args.types.now _ _ _ c.passed.ensures
    c.args.node_words.now c.args.node_words.now _ _ c.args.declaring_token
    c.check_word_declaration-checked.ensures c.in_ok-passed.was

pub parse_word_declaration-requires : goal.parse_word_declaration-requires
parse_word_declaration-requires c =
    words-sized (word-entry _ _ _ _ _ c.args.declaring_token) _ _ c.passed.ensures _
    c.check_word_declaration-checked.ensures c.in_ok-passed.was

pub returns : goal.returns
returns c =
    words-followed (word-entry _ _ _ _ _ _) _ _ c.passed.ensures _
    c.check_word_declaration-checked.ensures c.in_ok-passed.was c.parse_word_declaration.ensures
