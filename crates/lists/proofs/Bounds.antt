-- What the readers of lists take for granted holds after their turns.
use mathlib.Core.Path.{◌≡◌, ◌∙◌, ap}
use mathlib.Core.Bool.{Bool, true, false}
use mathlib.Core.List.{List}
use mathlib.Core.Option.{Option}
use Prim.Native.Nat.{ℕ, ◌+◌, ◌≤◌}
use native.Mathlib.Omega.{arith}
use Rattle.std.specs.Prelude.{Ok}
use Rattle.codes.specs.declared.NodeId.{NodeId}
use Rattle.codes.specs.declared.Read.{Read}
use Rattle.codes.specs.Answer.{ParseResult}
use Rattle.codes.specs.Words.{Gives, nodes}
use Rattle.codes.proofs.Onto.{Onto, split, plain-parsed}
use Rattle.codes.proofs.Loops.{held_in, same-held}
use Rattle.nodes.specs.Answer.{WithinSlots, active, past}
use Rattle.nodes.proofs.Bounds.{slots-after, item-fits}
use Rattle.lists.specs.Answer.{Counted, linking}
use Rattle.rules.specs.Codes.{pick}
use Rattle.rules.specs.Reading.{Row, Outcome, Step, again, done, pure, ◌>>=◌, consume, optional}
use Rattle.rules.specs.Lists.{Ends}
use Rattle.rules.specs.Words.{Words, words}
use Rattle.rules.specs.Expressions.{separator, item_end}
use Rattle.rules.proofs.Forward.{◌then◌, eased, appends, closes}

separator-keeps :
    (at : Row) (closing : ℕ) (l : Counted) {c : ℕ} {s : Words} {b : Step Counted Counted} {c' : ℕ} {s' : Words} →
    Onto (separator words at closing l) c s (pure b) c' s' → (l ≡ held_in b) × (s.count ≡ s'.count)
unfolding separator optional consume
separator-keeps at closing l {c} {s} {b} {c'} {s'} e =
    let w = split e in
    let x : s.count ≡ w.state.count = ap (λ (o : Outcome Words Bool). o.state.count) w.one.same in
    let (y, z) = go w.value w.two in
    (y, x ∙ z)
  where
    go :
        (v : Bool) {p : ℕ} {t : Words} →
        Onto (pick v (pure (again l)) (consume at closing >>= λ _. pure (done l))) p t (pure b) c' s' →
        (l ≡ held_in b) × (t.count ≡ s'.count)
    go true {p} e = same-held (again l) b p c' e
    go false {p} {t} e =
        let w = split e in
        let x : t.count ≡ w.state.count = ap (λ (o : Outcome Words (Unit {0})). o.state.count) w.one.same in
        let (y, z) = same-held (done l) b w.cursor c' w.two in
        (y, x ∙ z)

-- the list's end is among the nodes, and it has no more items than there are nodes
abbrev pub Fits : Counted → Words → Type 0
Fits l s = (past (active l.0) ≤ s.count) × (l.1 ≤ s.count)

pub item-turn :
    (at : Row) (closing : ℕ) (l : Counted) (content : ℕ) {c : ℕ} {s : Words} {b : Step Counted Counted} {c' : ℕ}
    {s' : Words} → Onto (item_end words at closing l content) c s (pure b) c' s' → Fits l s → Fits (held_in b) s'
unfolding item_end
item-turn at closing l content {b = b} {s' = s'} e h =
    let w = split e in
    let (f, g) = item-fits l.0 w.one h.0 in
    let (y, z) = separator-keeps at closing (w.value, l.1 + 1) w.two in
    let u : past (active w.value) ≡ past (active (held_in b).0) =
    ap (λ (x : Counted). past (active x.0)) y in
    let v : l.1 + 1 ≡ (held_in b).1 = ap (λ (x : Counted). x.1) y in
    (omega arith, omega arith)

-- after a list's end and the link to it
pub link-slots :
    {ns : List ℕ} (l : Option Ends) {c k : ℕ} {r : ParseResult (Read NodeId)} {ns' : List ℕ} →
    Gives (linking l) c (nodes ns k) r ns' → {v : Read NodeId} → r ≡ Ok v →
    WithinSlots ns k → WithinSlots ns' v.count
unfolding linking
link-slots l {c = c} g q z =
    (slots-after plain-parsed
    (closes {n = c} l then λ _ p e. eased {R = λ _ _. Unit {0}} (λ _ _ _. tt) (appends _ _)) (omega arith) g q z).0
