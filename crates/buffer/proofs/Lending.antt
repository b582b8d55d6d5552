-- A walk of the functions that have the record by value: it is put in a local, lent to a function that changes it, and
-- comes back at the value that the function's contract says. All that the proof knows of the function called is that it
-- meets its contract.
use mathlib.Core.Path.{◌≡◌, refl, sym, ap, subst}
use Prim.Native.Nat.{ℕ}
use mathlib.Core.List.{List, [], ◌∷◌}
use lib.ListN.{length}
use seplogic.Ra.Ura.{Ura}
use base.Fraction.{full_share}
use mir.Syntax.{Ty, ty_int, ty_ref, w32, named, erased, mut, deref, field, place, copy, rv_opd, addr_of, aggregate}
use mir.Syntax.{Body as Code, seq, assign, call, return, value_local, memory_slot, local as loc, Fn}
use prog.Routine.{Callee}
use mir.Val.{Val, vptr}
use base.Logic.{SProp, ent, id⊢}
use base.Fml.{Lft, GName, Share, ftrue, fat, flft}
use prog.Wp.{Calls, Loops, WpFn, Tables}
use types.Logic.{Logic}
use contract.Lifetimes.{Lfts}
use contract.Monad.{fact}
use types.Kit.{Item, ‵, raw, some, later, ◌⊛◌, ⋆, ◌$◌, ◌∵◌, !, qed, by, move, keep, drop, use0, use1, use2, use3, split}
use types.Kit.{join, pick, rewrite, fsplit, fjoin, suffices, frame, await, done}
use types.Part.{agg}
use types.Run.{look, init, forget, stop, load, addr, of_opd, and_then, no_more, assigns, land}
use types.Run.{returns, enter, alloc1, alloc0, params1, pass1, free1, free0}
use sound.WpLaws.{FmC, fm_of}
use denote.RattleType.{Denots, owns, flat}
use denote.Laws.{Is, valss, shows}
use denote.Memory.{pointee}
use denote.Builtin.{u32}
use denote.Ref.{MutBor}
use denote.Signature.{plain}
use denote.Slice.{MutSlice, slice_ty, mut_slice_vals, mut_slice_Tells, mut_slice_Lawful}
use denote.Steps.{only, owned, peeks, heard}
use denote.Triple.Statement.{Triple}
use denote.Triple.Call.{calls_at}
use denote.Triple.Clauses.{ensured, lasts, Lasts}
use denote.Triple.Entry.{Args, Vals, on_entry}
use denote.Triple.Walked.{says, needs, Stays, stay_none, gave_slice, has_of, walk_of, Goes-none}
use denote.Triple.Walked.{Goes-gave_slice, ends_at}
use denote.Exit.{yes}
use Rattle.walks.proofs.Extra as E
use Rattle.walks.proofs.Extra.{Extra, Values, Knowns}
use Rattle.walks.proofs.Lent.{ref, Ref, Lent as Loaned, lends, comes_back}
use Rattle.walks.proofs.Operands.{naming, itself, local, within, gone}
use Rattle.walks.proofs.Plain.{silent, sure, mir_of, val_of}
use Rattle.walks.proofs.Whole.{Cell, Own}
use Rattle.walks.proofs.Told.{by-walk}
use Rattle.codes.specs.declared.TokenId.{TokenId}
use Rattle.codes.specs.contracts.TokenId as I
use Rattle.buffer.specs.declared.ParseBuffer.{ParseBuffer}
use Rattle.buffer.specs.contracts.ParseBuffer as P
use Rattle.buffer.proofs.ParseBuffer.TheLaws as P'
use Rattle.buffer.proofs.Held.{buffer, B, cursor, column, Gone, relends, lasting}
use Rattle.buffer.proofs.Forms.{Way, Pairing, passed, passed-clauses, Passed, lent, lent-clauses, Lent}
use Rattle.buffer.proofs.Changed.{at}

-- the type of the local that holds the reference
abbrev ref-type : Ty
ref-type = ty_ref erased mut (pointee (P.the_row).written)

module _ (X : Extra) (Y : Pairing X) (#core : Callee) where
  abbrev V : Way X
  V = Y.way

  -- the code of such a function, which calls #core
  abbrev body : Code
  body =
      seq (assign (place (at X 0) []) (rv_opd (copy (place 3 []))))
      (seq (assign (place (at X 2) []) (addr_of (place (at X 0) [])))
      (seq (assign (place (at X 3) []) (addr_of (place 1 (field 0 ∷ deref (ty_int w32) ∷ []))))
      (seq (assign (place (at X 4) []) (aggregate (copy (place (at X 3) []) ∷ copy (place 1 (field 1 ∷ [])) ∷ [])))
      (seq (call #core (copy (place (at X 2) []) ∷ copy (place (at X 4) []) ∷ copy (place 2 []) ∷ E.operands X 4)
      (place (at X 1) []))
      (seq (assign (place (at X 5) []) (rv_opd (copy (place (at X 0) []))))
      (seq (assign (place 0 []) (aggregate (copy (place (at X 1) []) ∷ copy (place (at X 5) []) ∷ []))) return))))))

  abbrev pub function : Fn
  function = record {
    lifetimes = 1;
    outlives = [];
    ty_params = [];
    givens = 0;
    params = E.beyond X 3;
    locals =
        loc (mir_of Y.step) value_local ∷ loc (slice_ty (ty_ref (named 0) mut (ty_int w32))) value_local
        ∷ loc cursor.mir value_local ∷ loc P'.mir value_local ∷ E.locals X (loc P'.mir memory_slot
        ∷ loc V.answers.mir value_local ∷ loc ref-type value_local ∷ loc (ty_ref erased mut (ty_int w32)) value_local
        ∷ loc (slice_ty (ty_ref erased mut (ty_int w32))) value_local ∷ loc P'.mir value_local ∷ []);
    body = body;
  }

  abbrev temps : ℕ → ℕ → ℕ → ℕ → ℕ → ℕ → List (Ty × ℕ)
  temps lₜ lₐ lᵣ l₁ l₂ l =
      (P'.mir, lₜ) ∷ (V.answers.mir, lₐ) ∷ (ref-type, lᵣ) ∷ (ty_ref erased mut (ty_int w32), l₁)
      ∷ (slice_ty (ty_ref erased mut (ty_int w32)), l₂) ∷ (P'.mir, l) ∷ []

  abbrev stayed : Stays (passed X Y).signature.params (passed X Y).kept
  stayed = (
    gave_slice (0 ∷ []) tt (plain (λ _. u32)),
    (stay_none (λ _. I.the_row) yes, (stay_none (λ _. P.the_row) yes, E.stays 1 X)),
  )

  module _ {M : Type 1} {𝓤 : Ura M} (𝓛 : Logic 𝓤) (κ₁ : Lft) (q₁ : Share)
      (ws : MutBor (List ℕ)) (c : TokenId) (h : ParseBuffer) (a : Denots (E.rows 1 (κ₁, tt) X))
      (c-is : Is I.the_row c (cursor.val c ∷ [])) (h-is : Is P.the_row h (B.val h ∷ []))
      (x-is : Knowns X (E.out 1 (κ₁, tt) X a)) (asks : V.Asks h ws.now (E.out 1 (κ₁, tt) X a)) where
    open 𝓛 use {H}

    abbrev κs : Lfts 1
    κs = (κ₁, tt)

    abbrev x : Values X
    x = E.out 1 κs X a

    abbrev args : Args (passed X Y).signature κs
    args = (ws, (c, (h, a)))

    abbrev vals : Vals (passed X Y).signature κs
    vals = (
      column ws ∷ [],
      (cursor.val c ∷ [], (B.val h ∷ [], valss (E.rows 1 κs X) (E.spells 1 κs X) a)),
    )

    abbrev bound : (walk_of 𝓛 (passed X Y) stayed (passed-clauses X Y 𝓤)).Ghost
    bound = ((κs, (q₁, tt), tt, args, vals), tt)

    abbrev Post : Val → SProp 𝓤
    Post = (walk_of 𝓛 (passed X Y) stayed (passed-clauses X Y 𝓤)).post bound

    -- the token, and what the words own
    abbrev toks : Item 𝓤
    toks = ‵ (flft κ₁ q₁) ⊛ ‵ ftrue

    abbrev Column : Item 𝓤
    Column = ‵ ((MutSlice (named 0) κ₁ u32).own_val ws (column ws ∷ []))

    -- the call, with the record in the local l, which is lent for ν
    module _ (l ν : ℕ) (γ : GName) where
      abbrev lfts : Lfts 2
      lfts = (ν ∷ [], κs)

      abbrev given : Args (lent X V).signature lfts
      given = (ref buffer l γ h, (ws, (c, E.args 2 lfts X x)))

      abbrev given-vals : Vals (lent X V).signature lfts
      given-vals = (
        vptr l 0 ∷ [],
        (
          column ws ∷ [],
          (cursor.val c ∷ [], valss (E.rows 2 lfts X) (E.spells 2 lfts X) (E.args 2 lfts X x)),
        ),
      )

      abbrev to : (Lent X V 𝓤 𝓛).Ghost
      to = ((lfts, (full_share, (q₁, tt)), tt, given, given-vals), tt)

      goes :
          ent 𝓤 (⋆ 𝓛 (‵ (Ref buffer l (ν ∷ []) γ h) ∷ Column ∷ (‵ (flft (ν ∷ []) full_share) ⊛ toks) ∷ []))
          ((Lent X V 𝓤 𝓛).pre to)
      goes =
          qed 𝓛 (‵ (Ref buffer l (ν ∷ []) γ h) ∷ Column ∷ (‵ (flft (ν ∷ []) full_share) ⊛ toks) ∷ []) ∵
          says ! (subst (λ (z : Values X). V.Asks h ws.now z) (sym (E.out-args 2 lfts X x)) asks) $
          -- [the reference; the words; the tokens]
          use0 𝓛 (‵ (owns (E.rows 2 lfts X) given.1.1.1 given-vals.1.1.1)) (E.owned-all 𝓛 2 lfts X
          x x-is) $ owned ! I.the_row (Is I.the_row) (cursor.makes 𝓛) c _ c-is $ fjoin ! $
          move ! (2 ∷ 0 ∷ []) $ fjoin ! $ move ! (1 ∷ 0 ∷ []) $ fjoin ! $ move ! (1 ∷ 0 ∷ []) $ frame ! $ done !

      abbrev Last : Type 0
      Last = Lasts (lent X V) lfts given

      abbrev Said : V.answers.row.Denot → Last → Type 0
      Said r es = V.Gives c h ws.now (E.out 2 lfts X (E.args 2 lfts X x)) r es.0 es.1.0

    exits :
        (r : V.answers.row.Denot) (p : ParseBuffer) (ws' : List ℕ) → V.Gives c h ws.now x r p ws' →
        length ws' ≡ length ws.now → Is Y.step.row (Y.step.make r p) (val_of Y.step r p ∷ []) →
        ent 𝓤 (⋆ 𝓛 (toks ∷ ‵ (Gone κ₁ ws ws') ∷ [])) (Post (val_of Y.step r p))
    exits r p ws' e m is =
        qed 𝓛 (toks ∷ ‵ (Gone κ₁ ws ws') ∷ []) ∵
        suffices ! _ (ends_at 𝓛 (passed X Y) stayed (passed-clauses X Y 𝓤) bound (val_of Y.step r p)
        (Y.step.make r p) (ws', (tt, (tt, E.lasts 1 κs X a))) (m, (tt, (tt, E.fits 1 κs X a)))) $
        says ! (Y.step.made r p (λ r' p'. V.Gives c h ws.now x r' p' ws') e) $ frame ! $
        use0 𝓛 (‵ (has_of κs (E.slots 1 X) (E.kepts 1 X) (E.stays 1 X) a (E.lasts 1 κs X a) vals.1.1.1))
        (E.had-all 𝓛 1 κs X a) $
        owned ! P.the_row (Is P.the_row) (B.makes 𝓛) h _ h-is $ fjoin ! $
        owned ! I.the_row (Is I.the_row) (cursor.makes 𝓛) c _ c-is $ fjoin ! $
        move ! (1 ∷ 0 ∷ []) $ fjoin ! $ frame ! $
        owned ! Y.step.row (Is Y.step.row) (Y.step.makes 𝓛) (Y.step.make r p) _ is $ done !

    module _ (C : Calls 𝓤 H) (Λ : Loops 𝓤 H) (fm : FmC 𝓤 H 𝓛.laws C)
        (known : Triple 𝓤 (C #core) (Lent X V 𝓤 𝓛)) where
      walk :
          Is (MutSlice (named 0) κ₁ u32) ws (column ws ∷ []) →
          ent 𝓤 (on_entry 𝓛 (passed X Y).signature κs (q₁, tt) args vals)
          (WpFn 𝓤 H C Λ function (column ws ∷ cursor.val c ∷ B.val h ∷ flat (E.rows 1 κs X) vals.1.1.1) Post)
      walk ws-is =
          qed 𝓛 (toks ∷ ‵ (owns (MutSlice (named 0) κ₁ u32 ∷ I.the_row ∷ P.the_row ∷ E.rows 1 κs X) args vals) ∷ []) ∵
          enter ! C Λ function (column ws ∷ cursor.val c ∷ B.val h ∷ flat (E.rows 1 κs X) vals.1.1.1) _ $
          alloc1 ! (λ i₀. alloc1 ! (λ i₁. alloc1 ! (λ i₂. alloc1 ! (λ i₃. E.allocs-extra 𝓛 X (λ bs.
          alloc1 ! (λ lₜ. alloc1 ! (λ lₐ. alloc1 ! (λ lᵣ. alloc1 ! (λ l₁. alloc1 ! (λ l₂. alloc1 ! (λ l.
          naming (E.behind 𝓤 H X bs (temps lₜ lₐ lᵣ l₁ l₂ l)) (λ spot. alloc0 ! $ params1 ! $
          pass1 ! (init ! 17 refl ((mut_slice_Lawful 𝓛 (named 0) κ₁ u32).typed ws _ ws-is).0) $
          pass1 ! (init ! 15 refl (cursor.typed 𝓛 c _ c-is)) $
          pass1 ! (init ! 13 refl (B.typed 𝓛 h _ h-is)) $ move ! (12 ∷ []) $
          E.passes-extra 𝓛 1 κs X bs a x-is (temps lₜ lₐ lᵣ l₁ l₂ l) $
          assigns ! (of_opd ! (local ! 13 refl)) (within ! (spot 0) (stop !)) (init ! 11 refl (B.typed 𝓛 h _
          h-is)) $
          assigns ! (addr ! (within ! (spot 0) (stop !))) (within ! (spot 2) (stop !)) (init ! 7 refl (tt, tt)) $
          relends ! ws 17 5 3 refl (spot 3) (spot 4) refl refl refl refl refl ((mut_slice_Lawful 𝓛 (named 0) κ₁
          u32).typed ws _ ws-is).0 $
          -- the record is lent
          owned ! P.the_row (Is P.the_row) (B.makes 𝓛) h _ h-is $ move ! (12 ∷ 0 ∷ []) $
          use2 𝓛 (later (some (λ (ν : ℕ). some (λ (γ : GName). Loaned buffer lₜ 𝓛 h ν γ)))) (lends buffer lₜ 𝓛
          h) $ await ! tt $ pick ! (λ ν. pick ! (λ γ. split ! $ move ! (1 ∷ []) $ split ! $
          -- [its lifetime's token; the loan; the reference; the further parameters' locals; room for the record; …; the
          -- words; …; their pointer; …; the reference's local; …; room for the answer; …; …; _3; …; _2; …; _1; …; room
          -- for _0; …; the token; what the parameters own]
          move ! (24 ∷ []) $ fsplit ! $ move ! (2 ∷ 25 ∷ []) $ join ! $ move ! (4 ∷ 1 ∷ 0 ∷ []) $
          use3 𝓛 (raw ((Lent X V 𝓤 𝓛).pre (to lₜ ν γ))) (goes lₜ ν γ) $
          -- [what the callee asks; what the plain parameters own; the loan; the further ones' locals; …]
          calls_at ! fm (Lent X V 𝓤 𝓛) known (to lₜ ν γ) (and_then ! (load ! (within ! (spot 2) (stop !))
          (look ! 10 refl)) (and_then ! (load ! (within ! (spot 4) (stop !)) (look ! 6 refl))
          (and_then ! (local ! 17 refl) (E.reads-extra 𝓛 2 (lfts lₜ ν γ) 4 3 X bs x refl (E.spots 𝓤 H X bs
          ((mir_of Y.step, i₀) ∷ (slice_ty (ty_ref (named 0) mut (ty_int w32)), i₁) ∷ (cursor.mir, i₂) ∷ (P'.mir, i₃)
          ∷ []) (temps lₜ lₐ lᵣ l₁ l₂ l)))))) (λ u.
          use1 𝓛 (later (some (λ (r : V.answers.row.Denot). ((‵ (flft (ν ∷ []) full_share) ⊛ toks)
          ⊛ ‵ (V.answers.row.own_val r (u ∷ []))) ⊛ raw (ensured 𝓛 (lent X V) (lent-clauses X V 𝓤) (lfts lₜ ν γ)
          (given lₜ ν γ) tt r)))) (id⊢ 𝓤 _) $ await ! tt $ pick ! (λ r. split ! $ move ! (1 ∷ []) $
          use1 𝓛 (some (λ (es : Last lₜ ν γ). ‵ (lasts (lent X V) (lfts lₜ ν γ) (given lₜ ν γ) es) ⊛ raw (fact 𝓤 (Said
          lₜ ν γ r es)))) (id⊢ 𝓤 _) $ pick ! (λ es. split ! $ move ! (1 ∷ []) $ heard ! (Said lₜ ν γ r es) (λ e.
          -- the borrow of the record is let go
          fsplit ! $ fsplit ! $ move ! (1 ∷ []) $ drop ! $
          move ! (1 ∷ []) $ lasting ! (λ m. move ! (3 ∷ []) $ split ! $ split ! $
          -- [its lifetime's token; the words'; the answer; the words' last list; …; res; what the plain parameters own;
          -- the loan; the further ones' locals; …]
          move ! (0 ∷ 7 ∷ 5 ∷ []) $ use3 𝓛 (later (‵ (Cell buffer full_share es.0 lₜ 0) ⊛ ‵ (Own buffer es.0)))
          (comes_back buffer lₜ 𝓛 es.0 ν γ) $ await ! tt $ split ! $ move ! (1 ∷ []) $
          peeks ! P.the_row (Is P.the_row) (shows 𝓛 P.the_row) es.0 (B.val es.0 ∷ []) (λ is'.
          move ! (3 ∷ []) $
          -- [the answer; what the record owns; its cell; the token; the words' last list; …; what the plain parameters
          -- own; the further ones' locals; room for the record; …]
          peeks ! V.answers.row (Is V.answers.row) (shows 𝓛 V.answers.row) r (u ∷ []) (λ is.
          land ! (within ! (spot 1) (stop !)) (init ! 16 refl (V.answers.typed 𝓛 r u is)) $
          rewrite ! 16 (λ (v : Val). ‵ (fat full_share V.answers.mir lₐ 0 v)) (ap only (V.answers.tells r (u ∷ [])
          is)) refl $
          assigns ! (of_opd ! (load ! (within ! (spot 0) (stop !)) (look ! 2 refl))) (within ! (spot 5) (stop !))
          (init ! 8 refl (B.typed 𝓛 es.0 _ is')) $
          assigns ! (agg ! (and_then ! (load ! (within ! (spot 1) (stop !)) (look ! 16 refl)) (and_then !
          (load ! (within ! (spot 5) (stop !)) (look ! 8 refl)) (no_more !)))) (itself !)
          (init ! 25 refl (Y.step.typed 𝓛 (Y.step.make r es.0) _ (Y.step.whole r es.0 (sure
          V.answers r _ is) is'))) $
          returns ! (look ! 25 refl) $
          gone ! 25 refl refl $ gone ! 23 refl refl $ gone ! 21 refl refl $ gone ! 19 refl refl $
          move ! (7 ∷ []) $ E.frees-extra 𝓛 X bs x $ forget ! 2 refl $ move ! (2 ∷ 17 ∷ []) $
          free1 ! $ gone ! 14 refl refl $ gone ! 12 refl refl $ gone ! 10 refl refl $ gone ! 8 refl refl $
          gone ! 6 refl refl $ free0 ! $ keep ! (2 ∷ 3 ∷ []) $
          by ! (exits r es.0 es.1.0 (subst (λ (z : Values X). V.Gives c h ws.now z r es.0 es.1.0)
          (E.out-args 2 (lfts lₜ ν γ) X x) e) m (Y.step.whole r es.0 (sure V.answers r _ is)
          is')))))))))))))))))))))))

  module _ {M : Type 1} {𝓤 : Ura M} (𝓛 : Logic 𝓤) where
    open 𝓛 use {H}

    pub returned : (𝓣 : Tables 𝓤 H) → Triple 𝓤 (𝓣.C #core) (Lent X V 𝓤 𝓛) →
        Triple 𝓤 (WpFn 𝓤 H 𝓣.C 𝓣.Λ function) (Passed X Y 𝓤 𝓛)
    returned 𝓣 known = by-walk 𝓛 (passed X Y) stayed (passed-clauses X Y 𝓤) function 𝓣 (
      Goes-gave_slice 𝓛 1 0 tt (plain (λ _. u32)),
      (
        Goes-none 𝓛 1 (λ _. I.the_row) yes (λ κs. silent cursor yes),
        (Goes-none 𝓛 1 (λ _. P.the_row) yes (λ κs. silent B yes), E.goes 1 𝓛 X),
      ),
    )
        (λ κs. (mut_slice_vals, ((λ d. cursor.val d ∷ []), ((λ b. B.val b ∷ []), E.spells 1 κs X))))
        (λ κs. (
          mut_slice_Tells (named 0) κs.0 u32,
          (cursor.tells, (B.tells, E.tellss 1 κs X)),
        ))
        (λ κs qs bounds a g are. needs 𝓤 _ _ (λ asks.
        walk 𝓛 κs.0 qs.0 a.0 a.1.0 a.1.1.0 a.1.1.1 are.1.0 are.1.1.0
        (E.knowns 1 κs X a.1.1.1 are.1.1.1) asks 𝓣.C 𝓣.Λ (fm_of 𝓤 H 𝓛.laws 𝓣) known are.0))
