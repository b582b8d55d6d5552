-- A reader in a local is lent to a function over readers, by `&mut` or by `&`, and comes back: the step for each such
-- call. And a walk of the functions that make a reader of the row and the cursor, lend it once, and answer what is
-- answered then and the reader's cursor.
use mathlib.Core.Path.{◌≡◌, refl, sym, ap, subst}
use Prim.Native.Nat.{ℕ}
use mathlib.Core.List.{List, [], ◌∷◌}
use seplogic.Ra.Ura.{Ura}
use base.Fraction.{full_share}
use base.Share
use mir.Syntax.{Ty, ty_ref, named, erased, Mutability, field, Place, place, Opd, copy, rv_opd, addr_of}
use mir.Syntax.{aggregate, Body as Code, seq, assign, call, return, value_local, memory_slot, local as loc, Fn}
use mir.Val.{Val, vptr}
use base.Logic.{SProp, ent, id⊢, snd∗, ex_e}
use base.Fml.{GName, Lft, Share, ftrue, froom, fat, flft}
use prog.Memory.{Memory}
use prog.Routine.{Callee, Routine}
use prog.Wp.{Env, Calls, Loops, WpFn, Tables, spot_of}
use types.Logic.{Logic, sem}
use contract.BorrowLft.{meet_⊑_right, ⊑_refl}
use denote.Shares.{Shares-less}
use Rattle.reader.proofs.Tokens.TheLaws as K'
use contract.Lifetimes.{Lfts}
use contract.Monad.{Fun, fact}
use types.Kit.{Item, Post as After, Go, Sq, runs, lands, ‵, raw, some, later, ◌⊛◌, ⋆, ◌$◌, ◌∵◌, !, qed, by, move}
use types.Kit.{keep, drop, use0, use1, use3, split, join, pick, rewrite, fsplit, fjoin, frame, await, done}
use types.Part.{agg, whole, sub, look_in}
use types.Run.{Opds, look, init, forget, stop, fld, from, load, addr, of_opd, and_then, no_more, assigns, land, returns}
use types.Run.{enter, alloc1, alloc0, params1, pass1, pass0, free1, free0}
use sound.WpLaws.{FmC, fm_of}
use denote.RattleType.{owns, flat}
use denote.Laws.{Is, valss, shows}
use denote.Memory.{pointee}
use denote.Steps.{only, owned, peeks, heard, nothing}
use denote.Triple.Statement.{Triple}
use denote.Triple.Call.{calls_at}
use denote.Triple.Clauses.{ensured, lasts as lasts_of, Lasts}
use denote.Triple.Entry.{Args, Vals}
use denote.Triple.Walked.{says}
use Rattle.walks.proofs.Extra as E
use Rattle.walks.proofs.Extra.{Extra, Values, Knowns, none}
use Rattle.walks.proofs.Lent.{ref, Ref, Shr, Short, Long, LentWithin, SharedWithin, lends-within, back-within}
use Rattle.walks.proofs.Lent.{shares-within, share_back}
use Rattle.walks.proofs.Operands.{naming, itself, local, within, gone}
use Rattle.walks.proofs.Plain.{mir_of, val_of, sure}
use Rattle.walks.proofs.Whole.{Cell}
use Rattle.codes.proofs.TokenId.TheLaws as I'
use Rattle.tokens.proofs.Row.TheLaws as R'
use Rattle.reader.specs.declared.Tokens.{Tokens}
use Rattle.reader.specs.contracts.Tokens as T
use Rattle.reader.proofs.Held.{α, B, mach, row, reader, Own, cursor-is, cursor-typed, row-typed}
use Rattle.reader.proofs.Made.{New, αᵉ}
use Rattle.reader.proofs.Forms.{Way, Pairing, Asking, Asked, Below, cursor, lent, lent-clauses, Lent, Promise, promised}
use Rattle.reader.proofs.Forms.{Plainly, Look, looked, shared, shared-clauses, Shared}
use Rattle.reader.proofs.Above.{same, reader-type, row-type, Typed, tok, All, Walked}
use Rattle.reader.proofs.Above.{exits, makes, meets}

-- the rule for a call that the reader h in the local l is lent to, whose operands read no entry of the reader's
module _ (X : Extra) (Y : Way X) {M : Type 1} {𝓤 : Ura M} (𝓛 : Logic 𝓤) (C : Calls 𝓤 𝓛.H)
    (Λ : Loops 𝓤 𝓛.H) (#f : Callee) where
  open 𝓛 use {H}

  abbrev pub LentTo : Lft → Share → ℕ → Tokens → Values X → Type 2
  LentTo κ q l h x =
      (Γ : List (Item 𝓤)) (F : Env 𝓤 H) (xs : List Opd) (d : Place) (rest : Code) (Q : After 𝓤 H) →
      ((n : ℕ) (κs : Lfts n) (i j : Item 𝓤) → Opds (Go {0}) 𝓛 (i ∷ j ∷ Γ) F xs (vptr l 0 ∷ flat (E.rows n κs X)
      (valss (E.rows n κs X) (E.spells n κs X) (E.args n κs X x)))) →
      ((u : Val) (r : Y.answer.row.Denot) (h' : Tokens) → Y.Gives h x r h' →
      Sq 𝓛 (‵ (Y.answer.row.own_val r (u ∷ [])) ∷ ‵ (Cell (reader κ) full_share h' l 0) ∷ ‵ (Own κ h') ∷ ‵ (flft κ q) ∷ Γ)
      (lands C Λ F d u rest Q)) →
      Sq 𝓛 (‵ (Cell (reader κ) full_share h l 0) ∷ ‵ (Own κ h) ∷ ‵ (flft κ q) ∷ Γ) (runs C Λ F (seq (call #f xs d) rest)
      Q)

  abbrev pub Lends : Asking → Type 2
  Lends g = (κ : Lft) (q : Share) (l : ℕ) (h : Tokens) → Asked g h.cursor → (x : Values X) → Knowns X x → LentTo κ q
      l h x

-- the type of a local that holds a reference to a reader
abbrev pub ref-type : Mutability → Ty
ref-type μ = ty_ref erased μ (pointee (T.the_row (αᵉ [])).written)

module _ (μ : Mutability) (X : Extra) (Y : Way X) {M : Type 1} {𝓤 : Ura M} {𝓛 : Logic 𝓤}
    {C : Calls 𝓤 𝓛.H} {Λ : Loops 𝓤 𝓛.H} {#f : Callee} where
  -- the step: the address of the reader, which is in the local t, is put in the local r, and the function is called
  open 𝓛 use {H}

  pub lends-at :
      {κ : Lft} {q : Share} {l : ℕ} {h : Tokens} {x : Values X} → LentTo X Y 𝓛 C Λ #f κ q l h x →
      (Γ : List (Item 𝓤)) (F : Env 𝓤 H) (t r b : ℕ) (xs : List Opd) (d : Place) (rest : Code) (Q : After 𝓤 H) →
      spot_of 𝓤 H F t ≡ (reader-type, l, 0) → spot_of 𝓤 H F r ≡ (ref-type μ, b, 0) →
      ((n : ℕ) (κs : Lfts n) (i j k : Item 𝓤) → Opds (Go {0}) 𝓛 (i ∷ j ∷ k ∷ Γ) F xs (flat (E.rows n κs X)
      (valss (E.rows n κs X) (E.spells n κs X) (E.args n κs X x)))) →
      ((u : Val) (y : Y.answer.row.Denot) (h' : Tokens) → Y.Gives h x y h' →
      Sq 𝓛 (‵ (Y.answer.row.own_val y (u ∷ [])) ∷ ‵ (Cell (reader κ) full_share h' l 0) ∷ ‵ (Own κ h') ∷ ‵ (flft κ q)
      ∷ ‵ (fat full_share (ref-type μ) b 0 (vptr l 0)) ∷ Γ) (lands C Λ F d u rest Q)) →
      Sq 𝓛 (‵ (Cell (reader κ) full_share h l 0) ∷ ‵ (Own κ h) ∷ ‵ (flft κ q) ∷ ‵ (froom (ref-type μ) b 0) ∷ Γ)
      (runs C Λ F (seq (assign (place r []) (addr_of (place t []))) (seq (call #f (copy (place r []) ∷ xs) d) rest)) Q)
  lends-at lent-to Γ F t r b xs d rest Q at-t at-r os k =
      assigns ! (addr ! (within ! at-t (stop !))) (within ! at-r (stop !)) (init ! 3 refl (tt, tt)) $
      lent-to _ _ _ _ _ _ (λ n κs i j. and_then ! (load ! (within ! at-r (stop !)) (look ! 2 refl)) (os n κs i j _)) k

-- by `&mut`, for a lifetime ν of the call
module _ (X : Extra) (Y : Way X) {M : Type 1} {𝓤 : Ura M} (𝓛 : Logic 𝓤) (C : Calls 𝓤 𝓛.H)
    (Λ : Loops 𝓤 𝓛.H) (#f : Callee) (fm : FmC 𝓤 𝓛.H 𝓛.laws C) (known : Triple 𝓤 (C #f) (Lent X Y 𝓤 𝓛)) (κ : Lft)
    (q : Share) (l : ℕ) (h : Tokens) (below : Below h.cursor) (x : Values X) (x-is : Knowns X x) where
  abbrev lfts : ℕ → Lfts 2
  lfts ν = (ν ∷ κ, (κ, tt))

  abbrev given : (ν : ℕ) → GName → Args (lent X Y).signature (lfts ν)
  given ν γ = (ref (reader κ) l γ h, E.args 2 (lfts ν) X x)

  abbrev vals : (ν : ℕ) → Vals (lent X Y).signature (lfts ν)
  vals ν = (vptr l 0 ∷ [], valss (E.rows 2 (lfts ν) X) (E.spells 2 (lfts ν) X) (E.args 2 (lfts ν) X x))

  abbrev to : ℕ → GName → (Lent X Y 𝓤 𝓛).Ghost
  to ν γ = (
    (lfts ν, (Share.left q, (Share.right q, tt)), (meet_⊑_right (ν ∷ []) κ, tt), given ν γ, vals ν),
    tt,
  )

  goes :
      (ν : ℕ) (γ : GName) →
      ent 𝓤 (⋆ 𝓛 (‵ (Ref (reader κ) l (ν ∷ κ) γ h) ∷ ‵ (Short κ q ν) ∷ ‵ (Long κ q) ∷ []))
      ((Lent X Y 𝓤 𝓛).pre (to ν γ))
  goes ν γ =
      qed 𝓛 (‵ (Ref (reader κ) l (ν ∷ κ) γ h) ∷ ‵ (Short κ q ν) ∷ ‵ (Long κ q) ∷ []) ∵ says ! below $
      use0 𝓛 (‵ (owns (E.rows 2 (lfts ν) X) (given ν γ).1 (vals ν).1)) (E.owned-all 𝓛 2 (lfts ν) X x x-is) $
      move ! (1 ∷ 0 ∷ []) $ fjoin ! $
      nothing ! $ move ! (3 ∷ 0 ∷ []) $ join ! $ move ! (2 ∷ 0 ∷ []) $ join ! $ frame ! $ done !

  abbrev Said : (ν : ℕ) (γ : GName) → Y.answer.row.Denot → Lasts (lent X Y) (lfts ν) (given ν γ) → Type 0
  Said ν γ r ws = Y.Gives h (E.out 2 (lfts ν) X (E.args 2 (lfts ν) X x)) r ws.0

  pub lends-mut : LentTo X Y 𝓛 C Λ #f κ q l h x
  lends-mut Γ F xs d rest Q os k =
      use3 𝓛 (later (some (λ (ν : ℕ). some (λ (γ : GName). LentWithin (reader κ) l κ q 𝓛 h ν γ))))
      (lends-within (reader κ) l κ q 𝓛 h) $ await ! tt $ pick ! (λ ν. pick ! (λ γ. split ! $
      move ! (1 ∷ []) $ split ! $ move ! (1 ∷ []) $ split ! $ move ! (3 ∷ 2 ∷ 0 ∷ []) $
      use3 𝓛 (raw ((Lent X Y 𝓤 𝓛).pre (to ν γ))) (goes ν γ) $
      -- [what it asks; what is kept; …]
      calls_at ! fm (Lent X Y 𝓤 𝓛) known (to ν γ) (os 2 (lfts ν) _ _) (λ u.
      use1 𝓛 (later (some (λ (r : Y.answer.row.Denot). ((‵ (Short κ q ν) ⊛ ‵ (Long κ q) ⊛ ‵ ftrue)
      ⊛ ‵ (Y.answer.row.own_val r (u ∷ []))) ⊛ raw (ensured 𝓛 (lent X Y) (lent-clauses X Y 𝓤) (lfts ν) (given ν γ) tt
      r)))) (id⊢ 𝓤 _) $ await ! tt $ pick ! (λ r. split ! $ move ! (1 ∷ []) $
      use1 𝓛 (some (λ (ws : Lasts (lent X Y) (lfts ν) (given ν γ)). ‵ (lasts_of (lent X Y) (lfts ν) (given ν γ) ws)
      ⊛ raw (fact 𝓤 (Said ν γ r ws)))) (id⊢ 𝓤 _) $
      pick ! (λ ws. split ! $ move ! (1 ∷ []) $ heard ! (Said ν γ r ws) (λ e. fsplit ! $
      -- the borrow of the reader is let go
      fsplit ! $ move ! (1 ∷ []) $ drop ! $
      move ! (2 ∷ []) $ split ! $ split ! $ move ! (1 ∷ []) $ split ! $
      -- [a half of the token; true; the other half; the answer; res; what else is said at exit; what is kept; …]
      move ! (6 ∷ 4 ∷ []) $ join ! $ move ! (3 ∷ 1 ∷ 0 ∷ []) $
      use3 𝓛 (later (‵ (Cell (reader κ) full_share ws.0 l 0) ⊛ ‵ (Own κ ws.0) ⊛ ‵ (flft κ q)))
      (back-within (reader κ) l κ q 𝓛 ws.0 ν γ) $ await ! tt $ split ! $ move ! (1 ∷ []) $ split ! $
      -- [what the reader owns; the token; its cell; true; the answer; what else is said at exit; …]
      move ! (3 ∷ []) $ drop ! $ move ! (4 ∷ []) $ drop ! $ move ! (3 ∷ 2 ∷ 0 ∷ 1 ∷ []) $
      k u r ws.0 (subst (λ (y : Values X). Y.Gives h y r ws.0) (E.out-args 2 (lfts ν) X x) e)))))))

-- by `&`
module _ (X : Extra) (Y : Look X) {M : Type 1} {𝓤 : Ura M} (𝓛 : Logic 𝓤) (C : Calls 𝓤 𝓛.H)
    (Λ : Loops 𝓤 𝓛.H) (#f : Callee) (fm : FmC 𝓤 𝓛.H 𝓛.laws C) (known : Triple 𝓤 (C #f) (Shared X Y 𝓤 𝓛)) (κ : Lft)
    (q : Share) (l : ℕ) (h : Tokens) (x : Values X) (x-is : Knowns X x) where
  abbrev lfts' : ℕ → Lfts 2
  lfts' ν = (ν ∷ κ, (κ, tt))

  abbrev given' : (ν : ℕ) → Args (shared X Y).signature (lfts' ν)
  given' ν = (record { ref_ptr = (l, 0); now = h }, E.args 2 (lfts' ν) X x)

  abbrev vals' : (ν : ℕ) → Vals (shared X Y).signature (lfts' ν)
  vals' ν = (vptr l 0 ∷ [], valss (E.rows 2 (lfts' ν) X) (E.spells 2 (lfts' ν) X) (E.args 2 (lfts' ν) X x))

  abbrev to' : ℕ → (Shared X Y 𝓤 𝓛).Ghost
  to' ν = (
    (lfts' ν, (Share.left q, (Share.right q, tt)), (meet_⊑_right (ν ∷ []) κ, tt), given' ν, vals' ν),
    tt,
  )

  goes' :
      (ν : ℕ) →
      ent 𝓤 (⋆ 𝓛 (‵ (Shr (reader κ) l (ν ∷ κ) h) ∷ ‵ (Short κ q ν) ∷ ‵ (Long κ q) ∷ [])) ((Shared X Y 𝓤 𝓛).pre (to' ν))
  goes' ν =
      qed 𝓛 (‵ (Shr (reader κ) l (ν ∷ κ) h) ∷ ‵ (Short κ q ν) ∷ ‵ (Long κ q) ∷ []) ∵
      use0 𝓛 (‵ (owns (E.rows 2 (lfts' ν) X) (given' ν).1 (vals' ν).1)) (E.owned-all 𝓛 2 (lfts' ν) X x x-is) $
      move ! (1 ∷ 0 ∷ []) $ fjoin ! $
      nothing ! $ move ! (3 ∷ 0 ∷ []) $ join ! $ move ! (2 ∷ 0 ∷ []) $ join ! $ nothing ! $
      move ! (1 ∷ 2 ∷ []) $ join ! $ done !

  abbrev Said' : (ν : ℕ) → Y.answer.row.Denot → Type 0
  Said' ν r = Y.Shows h (E.out 2 (lfts' ν) X (E.args 2 (lfts' ν) X x)) r

  said' : (ν : ℕ) (r : Y.answer.row.Denot) →
      ent 𝓤 (ensured 𝓛 (shared X Y) (shared-clauses X Y 𝓤) (lfts' ν) (given' ν) tt r) (fact 𝓤 (Said' ν r))
  said' ν r = ex_e 𝓤 _ (λ ws. snd∗ 𝓤 (sem 𝓛 (lasts_of (shared X Y) (lfts' ν) (given' ν) ws)) (fact 𝓤 (Said' ν r)))

  pub lends-shr : LentTo X (looked Y) 𝓛 C Λ #f κ q l h x
  lends-shr Γ F xs d rest Q os k =
      use3 𝓛 (later (some (λ (ν : ℕ). SharedWithin (reader κ) l κ q 𝓛 h ν))) (shares-within (reader κ) l κ q 𝓛 h
      (Shares-less 𝓛 (B κ) (B κ).lives κ (K'.the_within (α κ) κ (⊑_refl κ)) ((K'.the_row_laws (α κ)).shares 𝓛) h)) $
      await ! tt $ pick ! (λ ν. split ! $
      move ! (1 ∷ []) $ split ! $ move ! (1 ∷ []) $ split ! $ move ! (3 ∷ 2 ∷ 0 ∷ []) $
      use3 𝓛 (raw ((Shared X Y 𝓤 𝓛).pre (to' ν))) (goes' ν) $
      -- [what it asks; what is kept; …]
      calls_at ! fm (Shared X Y 𝓤 𝓛) known (to' ν) (os 2 (lfts' ν) _ _) (λ u.
      use1 𝓛 (later (some (λ (r : Y.answer.row.Denot). ((‵ (Short κ q ν) ⊛ ‵ (Long κ q) ⊛ ‵ ftrue)
      ⊛ ‵ (Y.answer.row.own_val r (u ∷ []))) ⊛ raw (ensured 𝓛 (shared X Y) (shared-clauses X Y 𝓤) (lfts' ν) (given' ν) tt
      r)))) (id⊢ 𝓤 _) $ await ! tt $ pick ! (λ r. split ! $ move ! (1 ∷ []) $
      use1 𝓛 (raw (fact 𝓤 (Said' ν r))) (said' ν r) $ heard ! (Said' ν r) (λ e.
      split ! $ split ! $ move ! (1 ∷ []) $ split ! $ move ! (1 ∷ []) $ drop ! $
      -- [the other half of the token; a half of it; the answer; what is kept; …]
      move ! (1 ∷ 0 ∷ 3 ∷ []) $
      use3 𝓛 (later (‵ (Cell (reader κ) full_share h l 0) ⊛ ‵ (Own κ h) ⊛ ‵ (flft κ q))) (share_back (reader κ) l κ q 𝓛 h
      ν) $ await ! tt $ split ! $ move ! (1 ∷ []) $ split ! $
      -- [what the reader owns; the token; its cell; the answer; …]
      move ! (3 ∷ 2 ∷ 0 ∷ 1 ∷ []) $
      k u r h (subst (λ (y : Values X). Y.Shows h y r) (E.out-args 2 (lfts' ν) X x) e, refl)))))

-- the functions that lend a reader once
module _ (μ : Mutability) (Y : Pairing none) (g : Asking) (#new #f : Callee) where
  abbrev V : Way none
  V = Y.way

  abbrev P : Promise none
  P = promised Y g

  -- the code of such a function, which calls #new and #f
  abbrev body : Code
  body =
      seq (assign (place 6 []) (rv_opd (copy (place 1 []))))
      (seq (call #new (copy (place 6 []) ∷ copy (place 2 []) ∷ []) (place 5 []))
      (seq (assign (place 3 []) (rv_opd (copy (place 5 []))))
      (seq (assign (place 7 []) (addr_of (place 3 [])))
      (seq (call #f (copy (place 7 []) ∷ []) (place 4 []))
      (seq (assign (place 8 []) (rv_opd (copy (place 3 (field 1 ∷ [])))))
      (seq (assign (place 0 []) (aggregate (copy (place 4 []) ∷ copy (place 8 []) ∷ []))) return))))))

  abbrev pub function : Fn
  function = record {
    lifetimes = 1;
    outlives = [];
    ty_params = [];
    givens = 0;
    params = 2;
    locals =
        loc (mir_of Y.step) value_local ∷ loc row-type value_local ∷ loc cursor.mir value_local
        ∷ loc reader-type memory_slot ∷ loc V.answer.mir value_local ∷ loc reader-type value_local
        ∷ loc (R'.mir erased) value_local ∷ loc (ref-type μ) value_local ∷ loc cursor.mir value_local ∷ [];
    body = body;
  }

  module _ {M : Type 1} {𝓤 : Ura M} (𝓛 : Logic 𝓤) (mem : Memory → SProp 𝓤)
      (run : Routine → Fun 𝓤) (κ : Lft) (q : Share) (h₀ : Tokens) (may : Asked g h₀.cursor) (C : Calls 𝓤 𝓛.H)
      (Λ : Loops 𝓤 𝓛.H) (fm : FmC 𝓤 𝓛.H 𝓛.laws C) (known : Triple 𝓤 (C #new) (New 𝓛 mem run))
      (lends : Lends none V 𝓛 C Λ #f g) where
    open 𝓛 use {H}

    walk : Typed κ h₀ → Walked none P 𝓛 κ q h₀ tt (WpFn 𝓤 H C Λ) function
    walk is₀ =
        qed 𝓛 (tok none P 𝓛 κ q h₀ tt ∷ ‵ (All none P 𝓛 κ q h₀ tt) ∷ []) ∵
        enter ! C Λ function (row h₀ ∷ I'.lowered h₀.cursor ∷ []) _ $
        alloc1 ! (λ l₀. alloc1 ! (λ l₁. alloc1 ! (λ l₂. alloc1 ! (λ lₜ. alloc1 ! (λ lₐ. alloc1 ! (λ lₙ. alloc1 ! (λ l₆.
        alloc1 ! (λ lᵣ. alloc1 ! (λ l. alloc0 ! $ params1 ! $
        pass1 ! (init ! 14 refl (row-typed 𝓛 κ h₀ (named 0) is₀.0)) $
        pass1 ! (init ! 12 refl (cursor.typed 𝓛 h₀.cursor _ is₀.1)) $ pass0 ! $
        assigns ! (of_opd ! (local ! 14 refl)) (itself !) (init ! 4 refl (row-typed 𝓛 κ h₀ erased is₀.0)) $
        -- the reader is made
        move ! (18 ∷ 19 ∷ 6 ∷ 10 ∷ []) $
        -- [the token; what the parameters own; room for what `new` gives; for the reader; for the answer's cursor; …;
        -- for the reference; …; the row; …; …; room for the answer; …; …; _2; …; _1; …; room for _0; …]
        makes none P 𝓛 κ q h₀ tt mem run C Λ #new fm known _ _ _ _ _ _ _ _ _ refl refl (λ i₀ i₁ i₂ i₃.
        and_then ! (local ! 8 refl) (and_then ! (local ! 14 refl) (no_more !)))
        (λ u h e.
        -- it is lent
        move ! (0 ∷ 1 ∷ 2 ∷ 7 ∷ []) $
        lends-at μ none V (lends κ q lₜ h (subst (Asked g) (sym e.1) may) tt tt) _ _ _ _ _ _ _ _ _ refl refl
        (λ n κs i₀ i₁ i₂. no_more !) (λ v r h' e'.
        -- [the answer; the reader's cell; what it owns; the token; the reference; what `new` gave; what the row and the
        -- cursor own; room for the answer's cursor; …; …; the row; …; …; room for the answer; …; …; _2; …; _1; …; room
        -- for _0; …]
        peeks ! V.answer.row (Is V.answer.row) (shows 𝓛 V.answer.row) r (v ∷ []) (λ is'.
        land ! (itself !) (init ! 13 refl (V.answer.typed 𝓛 r v is')) $
        rewrite ! 13 (λ (y : Val). ‵ (fat full_share V.answer.mir lₐ 0 y)) (ap only (V.answer.tells r (v ∷ [])
        is')) refl $
        move ! (2 ∷ []) $ peeks ! (B κ) (Is (B κ)) (shows 𝓛 (B κ)) h' (mach h' ∷ []) (λ is''.
        -- [what the reader owns; the answer; the reader's cell; …]
        assigns ! (of_opd ! (load ! (from ! (fld ! refl (stop !))) (look_in ! 2 (sub ! 1 refl (whole !))))) (itself !)
        (init ! 7 refl (tt, cursor-typed 𝓛 κ h' is'')) $
        naming (Y.step.whole r h'.cursor (sure V.answer r _ is') (cursor-is κ h' is'')) (λ is'''.
        assigns ! (agg ! (and_then ! (local ! 13 refl) (and_then ! (local ! 7 refl) (no_more !)))) (itself !)
        (init ! 20 refl (Y.step.typed 𝓛 (Y.step.make r h'.cursor) _ is''')) $
        returns ! (look ! 20 refl) $
        gone ! 20 refl refl $ gone ! 18 refl refl $ gone ! 16 refl refl $ forget ! 2 refl $
        move ! (2 ∷ 15 ∷ []) $ free1 ! $
        -- [what the reader owns; the answer; the token; the reference; what `new` gave; what the row and the cursor
        -- own; the answer's cursor; …; …; the row; …; …; the answer; …]
        gone ! 12 refl refl $ move ! (4 ∷ 11 ∷ []) $ gone ! 0 refl refl $ gone ! 8 refl refl $
        move ! (3 ∷ 7 ∷ []) $ gone ! 0 refl refl $ gone ! 4 refl refl $ free0 ! $
        owned ! Y.step.row (Is Y.step.row) (Y.step.makes 𝓛) (Y.step.make r h'.cursor) _ is''' $
        nothing ! $ move ! (4 ∷ 0 ∷ []) $ join ! $ keep ! (0 ∷ 1 ∷ 4 ∷ []) $
        by ! (exits none P 𝓛 κ q h₀ tt (Y.step.make r h'.cursor) (val_of Y.step r h'.cursor)
        (Y.back h₀ tt r h' (subst (λ (t : Tokens). V.Gives t tt r h') (same h₀ h e) e')))))))))))))))))

  module _ {M : Type 1} {𝓤 : Ura M} (𝓛 : Logic 𝓤) (mem : Memory → SProp 𝓤)
      (run : Routine → Fun 𝓤) where
    open 𝓛 use {H}

    pub made-and-lent : (𝓣 : Tables 𝓤 H) → Triple 𝓤 (𝓣.C #new) (New 𝓛 mem run) →
        (FmC 𝓤 H 𝓛.laws 𝓣.C → Lends none V 𝓛 𝓣.C 𝓣.Λ #f g) →
        Triple 𝓤 (WpFn 𝓤 H 𝓣.C 𝓣.Λ function) (Plainly none P 𝓤 𝓛)
    made-and-lent 𝓣 known lends = meets none P 𝓛 𝓣 function (λ κ q h a a-is may is.
        walk 𝓛 mem run κ q h may 𝓣.C 𝓣.Λ (fm_of 𝓤 H 𝓛.laws 𝓣) known (lends (fm_of 𝓤 H 𝓛.laws 𝓣)) is)
