-- What the readers of references take for granted holds where they are called, and after them.
use mathlib.Core.Path.{◌≡◌, refl, sym, ◌∙◌, ap}
use mathlib.Core.List.{List, []}
use mathlib.Core.Option.{Option, none}
use Prim.Native.Nat.{ℕ, ◌+◌, ◌≤◌}
use native.Mathlib.Omega.{arith}
use lib.ListN.{length, replicate, length-replicate}
use Rattle.std.specs.Prelude.{Ok}
use Rattle.codes.specs.declared.NodeId.{NodeId}
use Rattle.codes.specs.declared.Read.{Read}
use Rattle.codes.specs.Answer.{ParseResult, parsed, row}
use Rattle.codes.specs.Words.{Gives, Untyped, Quiet, nodes}
use Rattle.codes.proofs.Onto.{Onto, plain-parsed, moved, came-read, split}
use Rattle.codes.proofs.Loops.{held_in, same-held}
use Rattle.nodes.specs.Answer.{WithinSlots, active, past}
use Rattle.nodes.proofs.Bounds.{slots-after, item-past}
use Rattle.references.specs.Answer.{depths, closing, counting}
use Rattle.references.proofs.Laws.{plain-depths}
use Rattle.rules.specs.Codes.{refusal_of}
use Rattle.rules.specs.Codes.Limit as Limit
use Rattle.rules.specs.Reading.{Row, Step, again, pure, ◌>>=◌}
use Rattle.rules.specs.Lists.{Ends}
use Rattle.rules.specs.Words.{Words, words, push_list_item}
use Rattle.rules.specs.Expressions.{closed, deref, name_alone, step_end}
use Rattle.rules.proofs.Forward.{Stop, Nonzero, Goes, ◌then◌, eased, appends, closes, consumes}
use Rattle.rules.proofs.Forward.{below}
use Rattle.rules.proofs.Moves.{ampersands-stays}

-- a row's tokens stand below any place from its length on
stop : (row : Row) (c : ℕ) → Stop row (length row.kinds + c)
stop row c = record { within = λ i h. let b = (below row).within i h in omega arith }

-- after a closing token and its node
module _ {tk ns : List ℕ} (key kind inside : ℕ) {c k : ℕ} {r : ParseResult (Read NodeId)} {ns' : List ℕ}
    (g : Untyped parsed (closing key kind inside) tk c (nodes ns k) r ns') {v : Read NodeId}
    (q : r ≡ Ok v) (h : Nonzero (refusal_of key)) (z : WithinSlots ns k) where
  pub after-closed : WithinSlots ns' v.count × (k ≤ v.count) × (v.cursor.0 ≡ c + 1)
  unfolding closing closed
  after-closed =
      slots-after plain-parsed
      (consumes (stop (row tk []) c) key h then λ _ p e. eased (λ _ _ e'. e' ∙ e) (appends kind 0)) (omega arith)
      (g.run []) q z

-- after ampersands
pub ampersands-at :
    (start : ℕ) {tk : List ℕ} {c k : ℕ} {a : ParseResult (Read ℕ)} → Quiet depths (counting start) tk c k a →
    {v : Read ℕ} → a ≡ Ok v → length tk ≤ Limit.Tokens → c ≤ length tk → v.cursor.0 ≤ Limit.Tokens + 1
unfolding counting
ampersands-at start {tk} {c} {k} g q b h =
    let (x, _, _) =
    moved (came-read (g.run [] (replicate k 0)) plain-depths q)
    (ampersands-stays (below (row tk [])) (omega arith) start c) (omega (arith, length-replicate {A = ℕ} k 0)) h in
    omega arith

-- after a name with no step
deref-there :
    {n c : ℕ} (start depth name steps : ℕ) → Goes n (deref words start depth name steps) c (λ _ c'. c' ≡ c)
unfolding deref
deref-there start depth name steps =
    appends _ _ then λ _ p q.
    appends _ _ then λ _ p' q'.
    appends _ _ then λ _ p'' q''.
    eased (λ _ _ e. e ∙ q'' ∙ q' ∙ q) (appends _ _)

pub name-there : {n c : ℕ} (name : ℕ) → Goes n (name_alone words name) c (λ _ c'. c' ≡ c)
unfolding name_alone
name-there name = closes none then λ l p q. eased (λ _ _ e. e ∙ q) (deref-there name 0 name l)

pub after-name :
    {ns : List ℕ} (name : ℕ) {c k : ℕ} {r : ParseResult (Read NodeId)} {ns' : List ℕ} →
    Gives (name_alone words name) c (nodes ns k) r ns' → {v : Read NodeId} → r ≡ Ok v →
    WithinSlots ns k → WithinSlots ns' v.count × (k ≤ v.count) × (v.cursor.0 ≡ c)
after-name name {c = c} g q z = slots-after plain-parsed (name-there {n = c} name) (omega arith) g q z

-- the list of a step, or of a round that is the last, is as that of its item
pub item-fits :
    (l : Option Ends) (f : Option Ends → Step (Option Ends) (Option Ends)) → ((m : Option Ends) → held_in (f m) ≡ m) →
    {c : ℕ} {s : Words} {b : Step (Option Ends) (Option Ends)} {c' : ℕ} {s' : Words} →
    Onto (push_list_item l >>= λ m. pure (f m)) c s (pure b) c' s' → past (active l) ≤ s'.count →
    past (active (held_in b)) ≤ s'.count
item-fits l f held {b = b} {c' = c'} {s' = s'} e h =
    let w = split e in
    let (y, z) = same-held (f w.value) b w.cursor c' w.two in
    let v : past (active w.value) ≡ past (active (held_in b)) =
    ap (λ (x : Option Ends). past (active x)) (sym (held w.value) ∙ y) in
    let g = item-past l w.one (omega arith) in
    omega arith

pub step_fits :
    (at : Row) (l : Option Ends) (content : ℕ) {c : ℕ} {s : Words} {b : Step (Option Ends) (Option Ends)} {c' : ℕ}
    {s' : Words} → Onto (step_end words at l content) c s (pure b) c' s' → past (active l) ≤ s'.count →
    past (active (held_in b)) ≤ s'.count
unfolding step_end
step_fits at l content e h = item-fits l again (λ m. refl) e h
