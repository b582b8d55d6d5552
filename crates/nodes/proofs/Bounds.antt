-- What the words' functions take for granted holds where they are called, and after them.
use mathlib.Core.Path.{◌≡◌, refl, ◌∙◌, ap}
use mathlib.Core.List.{List}
use mathlib.Core.Bool.{Bool, true, false}
use mathlib.Core.Option.{Option, some, none}
use Prim.Native.Nat.{ℕ, ◌+◌, ◌≤◌}
use lib.ListN.{length}
use lib.Dec.{ltb}
use native.Mathlib.Omega.{arith}
use Rattle.std.specs.Prelude.{Ok}
use Rattle.codes.specs.declared.NodeId.{NodeId}
use Rattle.codes.specs.declared.Read.{Read}
use Rattle.codes.specs.Answer.{State, ParseResult, state, token}
use Rattle.codes.specs.Words.{As, Gives, Sized, nodes}
use Rattle.codes.proofs.Onto.{Onto, Plain, came-read, moved, plain-parsed, came-node}
use Rattle.nodes.specs.declared.ActiveList.{ActiveList}
use Rattle.nodes.specs.Answer.{WithinSlots, ends, active, listed, past, append_two}
use Rattle.nodes.proofs.Laws.{active-ends, plain-listed, listed-back}
use Rattle.rules.specs.Codes.Limit as Limit
use Rattle.rules.specs.Codes.Refusal as Refusal
use Rattle.rules.specs.Reading.{Rule, Outcome, ok, no, pure, ◌>>=◌}
use Rattle.rules.specs.Lists.{Ends, extended, ended}
use Rattle.rules.specs.Lists as Lists
use Rattle.rules.specs.Words.{Words, append, patch, push_list_item, push_end_of_list}
use Rattle.rules.proofs.Forward.{Goes, ◌then◌, eased, appends, items, closes}

pub slots : {tk tv ns : List ℕ} {c k : ℕ} → Sized tk tv ns c k → WithinSlots ns k
slots z = record { slots = z.slots; used = z.used }

-- no node was appended
pub same-slots : {ns : List ℕ} {k j : ℕ} → j ≡ k → WithinSlots ns k → WithinSlots ns j
same-slots e z = rw e z

-- after a rule that read something: the slots, no fewer nodes than before, and what the rule leaves
pub slots-after :
    {A T : Type 0} {f : A → State → T} → Plain f → {m : Rule Words A} {n c : ℕ} {Q : A → ℕ → Type 0} → Goes n m c Q → c ≤ n →
    {ns : List ℕ} {k : ℕ} {r : ParseResult T} {ns' : List ℕ} → As f m c (nodes ns k) r ns' →
    {a : A} {p j : ℕ} → r ≡ Ok (f a (state (token p) j)) → WithinSlots ns k → WithinSlots ns' j × (k ≤ j) × Q a p
slots-after P h b g q z =
    let (_, e, w) = moved (came-read g P q) h z.used b in (
      record { slots = rw w.slots z.slots; used = w.fits },
      w.grew,
      e,
    )

-- after a node
module _
    {ns : List ℕ} (kind load : ℕ) {c k : ℕ} {r : ParseResult (Read NodeId)} {ns' : List ℕ}
    (g : Gives (append kind load) c (nodes ns k) r ns') {v : Read NodeId} (q : r ≡ Ok v)
    (z : WithinSlots ns k) where
  pub after_push : WithinSlots ns' v.count × (k ≤ v.count) × (v.cursor.0 ≡ c)
  after_push = slots-after plain-parsed (appends {n = c} kind load) (omega arith) g q z

  pub push-slots : WithinSlots ns' v.count
  push-slots = after_push.0

-- a node's number fits a load
pub append-root :
    (kind load : ℕ) {c : ℕ} {s : Words} {n c' : ℕ} {s' : Words} → Onto (append kind load) c s (pure n) c' s' →
    n ≡ s.count
unfolding append
append-root kind load {c} {s} {n} {c'} {s'} e = go (ltb s.count (length s.words)) refl e.same
  where
    go : (b : Bool) → ltb s.count (length s.words) ≡ b → append kind load c s ≡ pure n c' s' → n ≡ s.count
    go true d e =
        let x : ok s.count ≡ ok n = ap (λ (o : Outcome Words ℕ). o.result) (rw d at e) in
        cc
    go false d e =
        let x : no Refusal.NoSlot c c ≡ ok n = ap (λ (o : Outcome Words ℕ). o.result) (rw d at e) in
        let z : ◌≡◌ {A = ℕ} 0 1 = cc in
        absurd (omega arith)

-- and it is the last one
pub append-last :
    (kind load : ℕ) {c : ℕ} {s : Words} {n c' : ℕ} {s' : Words} → Onto (append kind load) c s (pure n) c' s' →
    n + 1 ≡ s'.count
unfolding append
append-last kind load {c} {s} {n} {c'} {s'} e = go (ltb s.count (length s.words)) refl e.same
  where
    go : (b : Bool) → ltb s.count (length s.words) ≡ b → append kind load c s ≡ pure n c' s' → n + 1 ≡ s'.count
    go true d e =
        let e' = rw d at e in
        let x : ok s.count ≡ ok n = ap (λ (o : Outcome Words ℕ). o.result) e' in
        let y : s.count + 1 ≡ s'.count = ap (λ (o : Outcome Words ℕ). o.state.count) e' in
        let z : s.count ≡ n = cc in
        omega arith
    go false d e =
        let x : no Refusal.NoSlot c c ≡ ok n = ap (λ (o : Outcome Words ℕ). o.result) (rw d at e) in
        let z : ◌≡◌ {A = ℕ} 0 1 = cc in
        absurd (omega arith)

pub push-root :
    {ns : List ℕ} (kind load : ℕ) {c k : ℕ} {r : ParseResult (Read NodeId)} {ns' : List ℕ} →
    Gives (append kind load) c (nodes ns k) r ns' → {v : Read NodeId} → r ≡ Ok v →
    WithinSlots ns k → v.value.0 ≤ Limit.Load
push-root kind load g q z = let e = append-root kind load (came-node g q) in omega arith

-- after two
pub two-slots :
    {ns : List ℕ} (kind load kind' load' : ℕ) {c k : ℕ} {r : ParseResult (Read NodeId)} {ns' : List ℕ} →
    Gives (append_two kind load kind' load') c (nodes ns k) r ns' → {v : Read NodeId} →
    r ≡ Ok v → WithinSlots ns k → WithinSlots ns' v.count
unfolding append_two
two-slots kind load kind' load' {c = c} g q z =
    (slots-after plain-parsed
    (appends {n = c} kind load then λ _ p e. eased {R = λ _ _. Unit {0}} (λ _ _ _. tt) (appends kind' load'))
    (omega arith) g q z).0

-- after a list's end
pub end-slots :
    {ns : List ℕ} (l : Option Ends) {c k : ℕ} {r : ParseResult (Read NodeId)} {ns' : List ℕ} →
    Gives (push_end_of_list l) c (nodes ns k) r ns' → {v : Read NodeId} → r ≡ Ok v →
    WithinSlots ns k → WithinSlots ns' v.count
end-slots l {c = c} g q z = (slots-after plain-parsed (closes {n = c} l) (omega arith) g q z).0

-- and so does the first item of a list, or its end
end-first :
    (l : Option Ends) {c : ℕ} {s : Words} {n c' : ℕ} {s' : Words} → Onto (push_end_of_list l) c s (pure n) c' s' →
    past (active l) ≤ s.count → n ≤ s.count
unfolding Lists.push_end_of_list append ended patch past ◌>>=◌
end-first l {c} {s} {n} {c'} {s'} e h = go l (ltb s.count (length s.words)) refl e.same h
  where
    go :
        (l : Option Ends) (b : Bool) → ltb s.count (length s.words) ≡ b → push_end_of_list l c s ≡ pure n c' s' →
        past (active l) ≤ s.count → n ≤ s.count
    go none true d e h =
        let x : ok s.count ≡ ok n = ap (λ (o : Outcome Words ℕ). o.result) (rw d at e) in
        let y : s.count ≡ n = cc in
        omega arith
    go (some f) true d e h =
        let x : ok f.first ≡ ok n = ap (λ (o : Outcome Words ℕ). o.result) (rw d at e) in
        let y : f.first ≡ n = cc in
        omega arith
    go l false d e h =
        let x : no Refusal.NoSlot c c ≡ ok n = ap (λ (o : Outcome Words ℕ). o.result) (rw d at e) in
        let z : ◌≡◌ {A = ℕ} 0 1 = cc in
        absurd (omega arith)

pub end-root :
    {ns : List ℕ} (l : ActiveList) {c k : ℕ} {r : ParseResult (Read NodeId)} {ns' : List ℕ} →
    Gives (push_end_of_list (ends l)) c (nodes ns k) r ns' → {v : Read NodeId} → r ≡ Ok v →
    WithinSlots ns k → past l ≤ k → v.value.0 ≤ Limit.Load
end-root l g q z h =
    let h' = rw (← active-ends l) at h in
    let e = end-first (ends l) (came-node g q) h' in
    omega arith

-- after an item
pub after-item :
    {ns : List ℕ} (l : Option Ends) {c k : ℕ} {o : ParseResult (Read ActiveList)} {ns' : List ℕ} →
    As listed (push_list_item l) c (nodes ns k) o ns' → {v : Read ActiveList} → o ≡ Ok v →
    WithinSlots ns k → WithinSlots ns' v.count × (k ≤ v.count) × (v.cursor.0 ≡ c)
after-item l {c = c} g {v} q z =
    slots-after plain-listed (items {n = c} l) (omega arith) g {a = ends v.value} (q ∙ listed-back) z

-- an item is one node more, and the place after its list is at most the count, if that was so of the list before
item-added :
    (l : Option Ends) {c : ℕ} {s : Words} {m : Option Ends} {c' : ℕ} {s' : Words} →
    Onto (push_list_item l) c s (pure m) c' s' →
    (past (active l) ≤ s'.count → past (active m) ≤ s'.count) × (s'.count ≡ s.count + 1)
unfolding Lists.push_list_item append extended patch past ◌>>=◌
item-added l {c} {s} {m} {c'} {s'} e = go l (ltb s.count (length s.words)) refl e.same
  where
    go :
        (l : Option Ends) (b : Bool) → ltb s.count (length s.words) ≡ b → push_list_item l c s ≡ pure m c' s' →
        (past (active l) ≤ s'.count → past (active m) ≤ s'.count) × (s'.count ≡ s.count + 1)
    go none true d e =
        let e' = rw d at e in
        let x : ok (some (record { first = s.count; last = s.count })) ≡ ok m =
        ap (λ (o : Outcome Words (Option Ends)). o.result) e' in
        let y : s.count + 1 ≡ s'.count = ap (λ (o : Outcome Words (Option Ends)). o.state.count) e' in
        let z : some (record { first = s.count; last = s.count }) ≡ m = cc in
        (λ h. rw (← z) (omega arith), omega arith)
    go (some f) true d e =
        let e' = rw d at e in
        let x : ok (some (record { first = f.first; last = s.count })) ≡ ok m =
        ap (λ (o : Outcome Words (Option Ends)). o.result) e' in
        let y : s.count + 1 ≡ s'.count = ap (λ (o : Outcome Words (Option Ends)). o.state.count) e' in
        let z : some (record { first = f.first; last = s.count }) ≡ m = cc in
        (λ h. rw (← z) (omega arith), omega arith)
    go l false d e =
        let e' = rw d at e in
        let x : no Refusal.NoSlot c c ≡ ok m = ap (λ (o : Outcome Words (Option Ends)). o.result) e' in
        let z : ◌≡◌ {A = ℕ} 0 1 = cc in
        absurd (omega arith)

module _ (l : Option Ends) {c : ℕ} {s : Words} {m : Option Ends} {c' : ℕ} {s' : Words}
    (e : Onto (push_list_item l) c s (pure m) c' s') where
  pub item-past : past (active l) ≤ s'.count → past (active m) ≤ s'.count
  item-past = (item-added l e).0

  pub item-fits : past (active l) ≤ s.count → (past (active m) ≤ s'.count) × (s'.count ≡ s.count + 1)
  item-fits h = let (f, g) = item-added l e in (f (omega arith), g)
