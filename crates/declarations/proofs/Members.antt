-- The members of a struct or word: what their loop keeps between two rounds, and a law for each return.
use mathlib.Core.Path.{◌≡◌, refl, ap}
use mathlib.Core.Bool.{Bool, true, false}
use mathlib.Core.List.{List}
use mathlib.Core.Option.{Option, none}
use Prim.Native.Nat.{ℕ, ◌-◌, ◌≤◌, ◌<◌}
use native.Mathlib.Omega.{arith}
use lib.ListN.{length}
use Rattle.std.specs.Prelude.{Ok, Err}
use Rattle.codes.specs.declared.NodeId.{NodeId}
use Rattle.codes.specs.declared.ParsingError.{ParsingError}
use Rattle.codes.specs.declared.Read.{Read}
use Rattle.codes.specs.Answer.{State}
use Rattle.codes.specs.Answer.{ParseResult, row}
use Rattle.codes.specs.Words.{As, Gives, Sized, nodes}
use Rattle.codes.proofs.Onto.{Onto, stays, split}
use Rattle.codes.proofs.Loops.{Going, sets-out, goes-round, held_in, same-held, turn-refused, turn_last, turn-again}
use Rattle.codes.proofs.Loops.{round-over}
use Rattle.nodes.specs.declared.ActiveList.{ActiveList}
use Rattle.nodes.specs.declared.Turn.{Turn}
use Rattle.nodes.specs.declared.Turn.TheVariants.{More, Last}
use Rattle.nodes.specs.Answer.{WithinSlots, ends, active, past}
use Rattle.nodes.proofs.Laws.{active-ends}
use Rattle.nodes.proofs.Bounds.{slots}
use Rattle.references.specs.Answer.{stepped}
use Rattle.references.proofs.Laws.{plain-stepped}
use Rattle.references.proofs.Bounds.{item-fits, step_fits}
use Rattle.expressions.proofs.Steps.{more_same, last-same}
use Rattle.rules.specs.Codes.{pick}
use Rattle.rules.specs.Codes.Refusal as Refusal
use Rattle.rules.specs.Codes.BaseToken as BaseToken
use Rattle.rules.specs.Reading.{Row, Step, done, again, pure, refuse, repeat, loop, ◌>>=◌, optional, consume}
use Rattle.rules.specs.Expressions.{step_end}
use Rattle.rules.specs.Lists.{Ends}
use Rattle.rules.specs.Words.{Words, words, push_list_item, push_end_of_list}
use Rattle.rules.specs.Declarations.{member, member_end, member_item, member_list}
use Rattle.rules.proofs.Forward.{Round}
use Rattle.rules.proofs.Forward.{below}
use Rattle.rules.proofs.Moves.{member-item}

-- after a member, or none: the list's end is among the nodes
member-fits :
    (at : Row) (u : ℕ) (l : Option Ends) {c : ℕ} {s : Words} {b : Step (Option Ends) (Option Ends)} {c' : ℕ}
    {s' : Words} → Onto (member_item words at u l) c s (pure b) c' s' → past (active l) ≤ s'.count →
    past (active (held_in b)) ≤ s'.count
unfolding member_item member_end optional
member-fits at u l {s = s} {b = b} {c' = c'} {s' = s'} e h = let w = split e in go w.value w.two
  where
    over :
        (v : Bool) (t : ℕ) {p : ℕ} {x : Words} →
        Onto (pick v (push_list_item l >>= λ m. pure (done m)) (consume at BaseToken.Comma >>= λ _. step_end words at l t))
        p x (pure b) c' s' →
        past (active (held_in b)) ≤ s'.count
    over true t e = item-fits l done (λ m. refl) e h
    over false t e = step_fits at l t (split e).two h

    go :
        (v : Bool) {p : ℕ} {t : Words} →
        Onto (pick v (pure (done l)) (member words at u >>= λ m. member_end words at l m)) p t (pure b) c' s' →
        past (active (held_in b)) ≤ s'.count
    go true {p} e =
        let (y, z) = same-held (done l) b p c' e in
        let v : past (active l) ≡ past (active (held_in b)) = ap (λ (x : Option Ends). past (active x)) y in
        omega arith
    go false e = let w = split (split e).two in over w.value _ w.two

-- Between two members: what is left of their list.
abbrev pub Members : List ℕ → List ℕ → ℕ → ℕ → Words → ActiveList → ℕ → Words → Type 0
Members tk tv u c₀ s₀ l c s =
    Going (member_list words (row tk tv) u) c₀ s₀
    (λ n m. repeat (member_item words (row tk tv) u) (refuse Refusal.OutOfRounds 0 0) n m >>= λ m. push_end_of_list m)
    (length tk) (ends l) c s

pub first_member :
    (tk tv : List ℕ) (u c : ℕ) (s : Words) (l : ActiveList) → ends l ≡ none → Members tk tv u c s l c s
unfolding member_list loop
first_member tk tv u c s l q = rw q (sets-out _ stays)

module _ (tk tv : List ℕ) (u c₀ : ℕ) {s₀ : Words} (l : ActiveList) {c k : ℕ} {ks : List ℕ}
    (h : Members tk tv u c₀ s₀ l c (nodes ks k)) {z : ParseResult (Read (Turn ActiveList))}
    {ks₁ : List ℕ}
    (g : As stepped (member_item words (row tk tv) u (ends l)) c (nodes ks k) z ks₁)
  where
    pub list-refused : {e : ParsingError} → z ≡ Err e → Gives (member_list words (row tk tv) u) c₀ s₀ (Err e) ks₁
    list-refused q = turn-refused _ _ _ _ _ h.onto g q

    turn-after :
        Sized tk tv ks c k → past l ≤ k →
        (b : Step (Option Ends) (Option Ends)) {t : State} → z ≡ Ok (stepped b t) →
        Sized tk tv ks₁ t.cursor.0 t.count × Round 0 c b t.cursor.0 × (past (active (held_in b)) ≤ t.count)
    turn-after y f b q =
        round-over y plain-stepped (member-item (below (row tk tv)) (omega arith) u (ends l) c)
        (λ m s. past (active m) ≤ s.count)
        (λ b p s e h. member-fits (row tk tv) u (ends l) e (rw (active-ends l) (omega arith))) g b q

    module _ {v : Read (Turn ActiveList)} (q : z ≡ Ok v) {m : ActiveList} where
      pub list_read :
          v.value ≡ Last m → {r : ParseResult (Read NodeId)} {ks₂ : List ℕ} →
          Gives (push_end_of_list (ends m)) v.cursor.0 (nodes ks₁ v.count) r ks₂ →
          Gives (member_list words (row tk tv) u) c₀ s₀ r ks₂
      list_read x d = turn_last _ _ _ _ _ h.onto g plain-stepped {b = ends m} (last-same q x) d

      module _ (y : Sized tk tv ks c k) (f : past l ≤ k) where
        pub turn-sized : v.value ≡ More m → Sized tk tv ks₁ v.cursor.0 v.count
        turn-sized x = (turn-after y f (again (ends m)) (more_same q x)).0

        pub turn-fits : v.value ≡ More m → past m ≤ v.count
        turn-fits x = let e = (turn-after y f (again (ends m)) (more_same q x)).2 in rw (active-ends m) at e

        pub turn-less : v.value ≡ More m → length tk - v.cursor.0 < length tk - c
        turn-less x = let (a, b, e) = turn-after y f (again (ends m)) (more_same q x) in omega (arith, a.at)

        pub next-member :
            v.value ≡ More m → Members tk tv u c₀ s₀ m v.cursor.0 (nodes ks₁ v.count)
        next-member x =
            let (a, b, e) = turn-after y f (again (ends m)) (more_same q x) in
            goes-round _ h (λ n. turn-again _ _ _ _ _ stays g plain-stepped {b = ends m} (more_same q x)) b a.at

        pub list-slots : v.value ≡ Last m → WithinSlots ks₁ v.count
        list-slots x = slots (turn-after y f (done (ends m)) (last-same q x)).0

        pub list-fits : v.value ≡ Last m → past m ≤ v.count
        list-fits x = let e = (turn-after y f (done (ends m)) (last-same q x)).2 in rw (active-ends m) at e
