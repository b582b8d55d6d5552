-- `codes::part` meets its contract: the table is the list of what part_number gives. No kind has more than four parts, and
-- a kind past the table has none. Assumes nothing.
use mathlib.Core.Path.{◌≡◌, refl, sym, ap, ◌∙◌}
use mathlib.Core.Bool.{true}
use mathlib.Core.List.{List, [], map}
use mathlib.Core.Logic.{⊎_elim}
use Prim.Native.Nat.{ℕ, ◌≤◌, ◌<◌}
use native.Mathlib.Omega.{arith}
use lib.Dec.{leb}
use lib.ListN.{length, get_or, get_or-eq_default}
use borrow.Author.Rules.{rules}
use borrow.Author.Tests.{leb-true}
use Rattle.std.proofs.lemmas.Option.{slice_get_cases, unwrap_or-slice_get}
use Rattle.rules.specs.Codes.{parts_of}
use Rattle.codes.specs.Parts.{code_of, part_number}
use Rattle.codes.proofs.Table.{values, entry, constant}
use Rattle.codes.proofs.part.Goals as goal

-- the table's row for a kind, and the table
abbrev row : ℕ → List ℕ
row kind = values (part_number kind) 4 0

abbrev table : List (List ℕ)
table = values row 64 0

-- how many parts a kind has
abbrev size : ℕ → ℕ
size kind = length (map code_of (parts_of kind))

few : (kind : ℕ) → kind < 64 → size kind ≤ 4
few kind h = leb-true (size kind) 4 (constant (λ k. leb (size k) 4) true 64 0 kind refl (omega arith) (omega arith))

none : (kind : ℕ) → 64 ≤ kind → kind < 256 → size kind ≡ 0
none kind h l = constant size 0 192 64 kind refl h (omega arith)

past : (kind place : ℕ) → size kind ≤ place → 0 ≡ part_number kind place
unfolding part_number
past kind place h = sym (get_or-eq_default (map code_of (parts_of kind)) 0 h)

of_row : (kind place : ℕ) → kind < 64 → get_or (row kind) place 0 ≡ part_number kind place
of_row kind place h =
    ⊎_elim (λ w. entry (part_number kind) 0 4 place w.1)
    (λ w. get_or-eq_default (row kind) 0 w.0 ∙ past kind place (omega (arith, few kind h, w.0)))
    (slice_get_cases (row kind) place).1

pub returns-in_default : goal.returns-in_default
returns-in_default c =
    let kind = c.args.kind in
    past kind c.args.place (omega (arith, none kind (search rules) (search rules)))

pub returns : goal.returns
unfolding part_number
returns c =
    let kind = c.args.kind in
    let h : kind < 64 = search rules in
    let place : c.from.result ≡ kind = search rules in
    let found : c.in-Some.parts.now ≡ get_or table c.from.result [] = (rw c.in-Some.is at c.get.ensures.lookup.3).1 [] in
    let parts : c.in-Some.parts.now ≡ get_or table kind [] = found ∙ ap (λ (k : ℕ). get_or table k []) place in
    let read : c.unwrap_or.result ≡ get_or c.in-Some.parts.now c.args.place 0 = search (rules, unwrap_or-slice_get) in
    read ∙ ap (λ (l : List ℕ). get_or l c.args.place 0) (parts ∙ entry row [] 64 kind h) ∙ of_row kind c.args.place h
