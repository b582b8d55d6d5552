-- `codes::refusal` meets its contract: the table is the list of what refusal_of gives, which is 0 past the table.
-- Assumes nothing.
use mathlib.Core.Path.{◌≡◌, refl, sym, ◌∙◌}
use mathlib.Core.List.{List}
use mathlib.Core.Logic.{⊎_elim}
use Prim.Native.Nat.{ℕ, ◌<◌}
use native.Mathlib.Omega.{arith}
use lib.ListN.{get_or, get_or-eq_default}
use borrow.Author.Rules.{rules}
use Rattle.std.proofs.lemmas.Option.{slice_get_cases, unwrap_or-slice_get}
use Rattle.rules.specs.Codes.{refusal_of}
use Rattle.codes.proofs.Table.{values, entry, constant}
use Rattle.codes.proofs.refusal.Goals as goal

-- the table, and what it gives for a kind
abbrev table : List ℕ
table = values refusal_of 62 0

of_table : (kind : ℕ) → kind < 256 → get_or table kind 0 ≡ refusal_of kind
of_table kind h =
    ⊎_elim (λ w. entry refusal_of 0 62 kind w.1)
    (λ w. get_or-eq_default table 0 w.0 ∙ sym (constant refusal_of 0 194 62 kind refl w.0 (omega arith)))
    (slice_get_cases table kind).1

pub returns : goal.returns
returns c =
    let read : c.unwrap_or.result ≡ get_or table c.args.expected 0 = search (rules, unwrap_or-slice_get) in
    read ∙ of_table c.args.expected (search rules)
