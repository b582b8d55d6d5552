-- Words and columns that agreed before a call agree after it: both are what the definition gives.
use mathlib.Core.Path.{◌≡◌, sym, ◌∙◌}
use mathlib.Core.List.{List}
use Prim.Native.Nat.{ℕ}
use Rattle.codes.specs.Answer.{Gives}
use Rattle.rules.specs.Reading.{Rule, Row}
use Rattle.rules.specs.Columns.{Nodes}
use lib.ListN.{length}
use Rattle.rules.specs.Trees.{Tree}
use Rattle.checks.specs.Checks.{Check, input_check, declaration_check, word_declaration_check}
use Rattle.penne.specs.Promise.{Parsed, Promise, Expression, Type', Constant, Struct, Word}
use Rattle.penne.specs.Words.{Transfers}

once :
    {m : Rule Nodes ℕ} {c : ℕ} {o : Nodes} {r r' : Parsed} {ks ls ks' ls' : List ℕ} → Gives m c o r ks ls →
    Gives m c o r' ks' ls' → (r ≡ r') × (ks ≡ ks') × (ls ≡ ls')
once d e = (d.reply ∙ sym e.reply, d.kinds ∙ sym e.kinds, d.loads ∙ sym e.loads)

transfers :
    (E : ℕ → ℕ → ℕ → Check) (tokens : ℕ) (m : Rule Nodes ℕ) (q : Rule (Unit {0}) Tree) (c : ℕ) →
    Transfers (λ o. Promise tokens (E (length o.kinds) (length o.loads) o.count) m q c o)
transfers E tokens m q c ks ls ws count r r' ks' ls' ws' a p w =
    let p' = rw (a.0, a.1) at p in
    let (x, y, z) = once p'.equal w.equal in
    (x, (y, z))

module _ (row : Row) (c : ℕ) where
  pub expression-transfers : Transfers (Expression row c)
  expression-transfers = transfers (input_check row c) _ _ _ c

  pub type-transfers : Transfers (Type' row c)
  type-transfers = transfers (input_check row c) _ _ _ c

  module _ (start flags : ℕ) where
    abbrev checks : ℕ → ℕ → ℕ → Check
    checks slots loads count = declaration_check row c slots loads count start flags

    pub constant-transfers : Transfers (λ o. Constant row c o start flags)
    constant-transfers = transfers checks _ _ _ c

    pub struct-transfers : Transfers (λ o. Struct row c o start flags)
    struct-transfers = transfers checks _ _ _ c

    pub word-transfers : (kind : ℕ) → Transfers (λ o. Word row c o start flags kind)
    word-transfers kind =
        transfers (λ slots loads count. word_declaration_check row c slots loads count start flags kind) _ _ _ c
