-- `declarations::opaque_flags` meets its contract: a law for each return, found among the facts of its path.
use Rattle.declarations.proofs.Laws.{opaque-added, opaque-there}
use borrow.Author.Rules.{rules}
use Rattle.declarations.proofs.opaque_flags.Goals as goal

pub returns-then-flags-lt-OpaqueStruct : goal.returns-then-flags-lt-OpaqueStruct
returns-then-flags-lt-OpaqueStruct c = search (rules, opaque-added)

pub returns-else-flags-lt-OpaqueStruct : goal.returns-else-flags-lt-OpaqueStruct
returns-else-flags-lt-OpaqueStruct c = search (rules, opaque-there)
