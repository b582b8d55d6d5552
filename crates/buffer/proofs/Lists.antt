-- A walk of the function that is lent the record and changes its count and its list: the borrow is opened, a function
-- is called with the words, the cursor, the count and the list, the count and the list of its answer, where it read
-- one, are stored in the record, and the borrow is closed. All that the proof knows of the function called is that it
-- meets its contract.
use mathlib.Core.Path.{refl, ap}
use Prim.Native.Nat.{ℕ}
use native.Mathlib.Omega.{arith}
use mathlib.Core.List.{List, [], ◌∷◌}
use seplogic.Ra.Ura.{Ura}
use base.Fraction.{full_share}
use mir.Syntax.{Ty, ty_int, w32, named, deref, field, variant, place, copy, rv_opd, addr_of, aggregate, switch, arm}
use mir.Syntax.{no_default, Body as Code, seq, assign, call, return, skip, value_local, local as loc, Fn}
use prog.Routine.{Callee}
use mir.Val.{Val, vptr}
use base.Fml.{Lft, Share, fat, flft}
use prog.Wp.{Calls, Loops, WpFn, Tables}
use types.Logic.{Logic}
use contract.Lifetimes.{Lfts}
use types.Kit.{‵, ◌⊛◌, ◌$◌, ◌∵◌, !, qed, by, move, keep, drop, split, rewrite, fsplit, fsplit3, at_ret}
use types.Part.{whole, sub, look_in, store_in}
use types.Match.{vrt, in_variant, look_tag, by_variants}
use types.Run.{look, init, stop, hop, fld, from, load, of_opd, and_then, no_more, assigns, assigns_last, skips, land}
use types.Run.{first, exec, returns, enter, alloc1, alloc0, params1, pass1, pass0, free1, free0}
use sound.WpLaws.{FmC, fm_of}
use denote.RattleType.{Denots, owns}
use denote.Laws.{Is, shows}
use denote.Builtin.{u32}
use denote.Ref.{MutBor, MutRef}
use denote.Slice.{MutSlice, mut_slice_Lawful}
use denote.Steps.{only, peeks}
use denote.Triple.Statement.{Triple}
use Rattle.std.specs.Prelude.{Ok, Err}
use Rattle.walks.proofs.Extra as E
use Rattle.walks.proofs.Extra.{none, one}
use Rattle.walks.proofs.Operands.{naming, itself, local, gone}
use Rattle.walks.proofs.Plain.{Plain, Argument, number, owed-ok, owed-err, owes-ok, owes-err}
use Rattle.walks.proofs.Whole.{opens-whole}
use Rattle.codes.specs.declared.TokenId.{TokenId}
use Rattle.codes.specs.contracts.TokenId as I
use Rattle.buffer.specs.declared.ParseBuffer.{ParseBuffer}
use Rattle.buffer.specs.contracts.ParseBuffer as P
use Rattle.buffer.proofs.Held.{buffer, list, list-of, cursor, column, read, read-of, answer, parsing-error, relends}
use Rattle.buffer.proofs.Held.{read-value, read-count, count-is, list-is, record-is}
use Rattle.buffer.proofs.Forms.{Call, Way, Listing, relisting, relisted, Called, Lent}
use Rattle.buffer.proofs.Calls.{calls-words}
use Rattle.buffer.proofs.Changed.{ref-type, words-type, pointer-type, again-type, its-count, its-list, at, closes-at}
use Rattle.buffer.proofs.Changed.{vals, args}
use Rattle.buffer.proofs.Changed.{toks, Post, Walked, exits, meets}

module _ (Y : Listing) (#core : Callee) where
  abbrev V : Way none
  V = relisted Y

  abbrev T : Argument
  T = list-of

  abbrev Z : Call (one list)
  Z = relisting Y

  abbrev R : Plain
  R = answer T

  -- the code of such a function, which calls #core: its last two statements, and all
  abbrev rest : Code
  rest = seq (assign (place 0 []) (rv_opd (copy (place (at none 0) [])))) return

  abbrev body : Code
  body =
      seq (assign (place (at none 2) []) (addr_of (place 2 (field 0 ∷ deref (ty_int w32) ∷ []))))
      (seq (assign (place (at none 3) []) (aggregate (copy (place (at none 2) []) ∷ copy (place 2
      (field 1 ∷ [])) ∷ [])))
      (seq (assign (place (at none 4) []) (rv_opd (copy its-count)))
      (seq (assign (place (at none 5) []) (rv_opd (copy its-list)))
      (seq (call #core (copy (place (at none 3) []) ∷ copy (place 3 []) ∷ copy (place (at none 4) [])
      ∷ copy (place (at none 5) []) ∷ []) (place (at none 0) []))
      (seq (switch (copy (place (at none 0) (variant 0 ∷ field 0 ∷ [])))
      (arm (0 ∷ []) (seq (assign (place (at none 1) []) (rv_opd (copy (place (at none 0) (variant 0 ∷ field 1 ∷ [])))))
      (seq (assign (place (at none 6) []) (rv_opd (copy (place (at none 1) (field 1 ∷ [])))))
      (seq (assign its-count (rv_opd (copy (place (at none 6) []))))
      (seq (assign (place (at none 7) []) (rv_opd (copy (place (at none 1) (field 2 ∷ [])))))
      (assign its-list (rv_opd (copy (place (at none 7) []))))))))
      (arm (1 ∷ []) skip no_default)))
      rest)))))

  abbrev pub function : Fn
  function = record {
    lifetimes = 2;
    outlives = [];
    ty_params = [];
    givens = 0;
    params = 3;
    locals = loc R.mir value_local ∷ loc ref-type value_local ∷ loc words-type value_local ∷ loc cursor.mir value_local
        ∷ loc R.mir value_local ∷ loc (read T).mir value_local ∷ loc pointer-type value_local
        ∷ loc again-type value_local ∷ loc (ty_int w32) value_local ∷ loc list.mir value_local
        ∷ loc (ty_int w32) value_local ∷ loc list.mir value_local ∷ [];
    body = body;
  }

  -- the locals behind the parameters: the answer, what was read, the words' pointer and the words, the count, the list,
  -- the next count and the next list
  abbrev temps : ℕ → ℕ → ℕ → ℕ → ℕ → ℕ → ℕ → ℕ → List (Ty × ℕ)
  temps lₛ lᵥ l₁ l₂ lₙ l₃ l₄ l₅ =
      (R.mir, lₛ) ∷ ((read T).mir, lᵥ) ∷ (pointer-type, l₁) ∷ (again-type, l₂) ∷ (ty_int w32, lₙ) ∷ (list.mir, l₃)
      ∷ (ty_int w32, l₄) ∷ (list.mir, l₅) ∷ []

  -- the environment of all
  abbrev F : ℕ → ℕ → ℕ → ℕ → ℕ → ℕ → ℕ → ℕ → ℕ → ℕ → ℕ → ℕ → List (Ty × ℕ)
  F i₀ i₁ i₂ i₃ lₛ lᵥ l₁ l₂ lₙ l₃ l₄ l₅ =
      (R.mir, i₀) ∷ (ref-type, i₁) ∷ (words-type, i₂) ∷ (cursor.mir, i₃) ∷ temps lₛ lᵥ l₁ l₂ lₙ l₃ l₄ l₅

  module _ {M : Type 1} {𝓤 : Ura M} (𝓛 : Logic 𝓤) (κ κ₁ : Lft) (q q₁ : Share) (y : MutBor ParseBuffer)
      (ws : MutBor (List ℕ)) (c : TokenId) (a : Denots (E.rows 2 (κ, (κ₁, tt)) none))
      (ws-is : Is (MutSlice (named 1) κ₁ u32) ws (column ws ∷ [])) (c-is : Is I.the_row c (cursor.val c ∷ []))
      (asks : Y.Asks y.now.count ws.now y.now.list) (C : Calls 𝓤 𝓛.H) (Λ : Loops 𝓤 𝓛.H) (fm : FmC 𝓤 𝓛.H 𝓛.laws C)
      (known : Triple 𝓤 (C #core) (Called (one list) Z 𝓤 𝓛)) where
    open 𝓛 use {H}

    walk : Walked none V 𝓛 κ κ₁ q q₁ y ws c a (WpFn 𝓤 H C Λ) function
    walk =
        let κs : Lfts 2 = (κ, (κ₁, tt)) in
        let b = y.ref_ptr.0 in let o = y.ref_ptr.1 in let h = y.now in
        let K = Post none V 𝓛 κ κ₁ q q₁ y ws c a in
        qed 𝓛 ((‵ (flft κ q) ⊛ toks none V 𝓛 κ κ₁ q q₁ y ws c a) ∷ ‵ (owns (MutRef (named 0) κ P.the_row
        ∷ MutSlice (named 1) κ₁ u32 ∷ I.the_row ∷ []) (args none V 𝓛 κ κ₁ q q₁ y ws c a) (vals none V 𝓛 κ κ₁ q q₁ y ws
        c a)) ∷ []) ∵
        enter ! C Λ function (vptr b o ∷ column ws ∷ cursor.val c ∷ []) _ $
        alloc1 ! (λ i₀. alloc1 ! (λ i₁. alloc1 ! (λ i₂. alloc1 ! (λ i₃.
        alloc1 ! (λ lₛ. alloc1 ! (λ lᵥ. alloc1 ! (λ l₁. alloc1 ! (λ l₂. alloc1 ! (λ lₙ. alloc1 ! (λ l₃.
        alloc1 ! (λ l₄. alloc1 ! (λ l₅. alloc0 ! $ params1 ! $
        pass1 ! (init ! 20 refl (tt, tt)) $
        pass1 ! (init ! 18 refl ((mut_slice_Lawful 𝓛 (named 1) κ₁ u32).typed ws _ ws-is).0) $
        pass1 ! (init ! 16 refl (cursor.typed 𝓛 c _ c-is)) $ pass0 ! $
        -- the borrow is opened
        move ! (25 ∷ []) $ fsplit ! $ fsplit3 ! $ drop ! $ move ! (27 ∷ []) $ split ! $ move ! (2 ∷ 3 ∷ 0 ∷ []) $
        opens-whole ! tt buffer h b o (λ was.
        -- [the record's cell; what it owns; the open borrow; obs; auth; the words' token; what the other parameters
        -- own; room for the locals behind them, the last one first; _3; …; _2; …; _1; …; room for _0; …]
        relends ! ws 25 17 15 refl refl refl refl refl refl refl refl ((mut_slice_Lawful 𝓛 (named 1) κ₁ u32).typed
        ws _ ws-is).0 $
        assigns ! (of_opd ! (load ! (from ! (hop ! (look ! 27 refl) (fld ! refl (stop !)))) (look_in ! 0 (sub ! 0 refl
        (whole !))))) (itself !) (init ! 13 refl ((number w32).typed 𝓛 h.count _ (count-is h was))) $
        assigns ! (of_opd ! (load ! (from ! (hop ! (look ! 27 refl) (fld ! refl (stop !)))) (look_in ! 0 (sub ! 1 refl
        (whole !))))) (itself !) (init ! 11 refl (list.typed 𝓛 h.list _ (list-is h was))) $
        move ! (6 ∷ []) $ fsplit ! $ move ! (0 ∷ 7 ∷ []) $
        -- [what the words own; their token; what the plain parameters own; the record's cell; …]
        calls-words (one list) Z 𝓛 C Λ #core fm known κ₁ q₁ ws c c-is h.count (count-is h was) h.list (list-is h was) asks
        _ _ _ _ _ _ (λ i.
        and_then ! (local ! 15 refl) (and_then ! (local ! 23 refl) (and_then ! (local ! 13 refl)
        (and_then ! (local ! 11 refl) (no_more !))))) (λ u.
        -- [what the callee gives; the words' token; their last list; what the plain parameters own; the record's cell;
        -- what it owns; the open borrow; obs; auth; …]
        elim [
          | Ok v ↦ λ ws' e m.
              peeks ! R.row (Is R.row) (shows 𝓛 R.row) (Ok v) (u ∷ []) (λ is.
              naming (owed-ok (read-of T) parsing-error v _ is) (λ v-is.
              naming (owes-ok (read-of T) parsing-error v v-is) (λ ok-is.
              naming (read-count T v v-is) (λ n-is.
              naming (read-value T v v-is) (λ l-is.
              land ! (itself !) (init ! 23 refl (R.typed 𝓛 (Ok v) u is)) $
              rewrite ! 23 (λ (z : Val). ‵ (fat full_share R.mir lₛ 0 z)) (ap only (R.tells (Ok v) (u ∷ []) is)) refl $
              first ! $ by_variants ! 23 (whole !)
              (load ! (from ! (vrt ! refl (fld ! refl (stop !)))) (look_tag ! 23 (whole !))) tt (
                (λ k.
                    -- the count is stored, and the list
                    assigns ! (of_opd ! (load ! (from ! (vrt ! refl (fld ! refl (stop !))))
                    (look_in ! 23 (in_variant ! 0 0 refl refl (whole !))))) (itself !)
                    (init ! 21 refl ((read T).typed 𝓛 v _ v-is)) $
                    assigns ! (of_opd ! (load ! (from ! (fld ! refl (stop !))) (look_in ! 21 (sub ! 1 refl (whole !)))))
                    (itself !) (init ! 11 refl ((number w32).typed 𝓛 v.count _ n-is)) $
                    assigns ! (of_opd ! (local ! 11 refl)) (from ! (hop ! (look ! 29 refl) (fld ! refl (stop !))))
                    (store_in ! 4 (sub ! 0 refl (whole !)) ((number w32).typed 𝓛 v.count _ n-is)) $
                    assigns ! (of_opd ! (load ! (from ! (fld ! refl (stop !))) (look_in ! 21 (sub ! 2 refl (whole !)))))
                    (itself !) (init ! 9 refl (list.typed 𝓛 v.value _ l-is)) $
                    assigns_last ! (of_opd ! (local ! 9 refl)) (from ! (hop ! (look ! 29 refl) (fld ! refl (stop !))))
                    (store_in ! 4 (sub ! 1 refl (whole !)) (list.typed 𝓛 v.value _ l-is)) $
                    exec ! C Λ (F i₀ i₁ i₂ i₃ lₛ lᵥ l₁ l₂ lₙ l₃ l₄ l₅) rest (at_ret
                    (F i₀ i₁ i₂ i₃ lₛ lᵥ l₁ l₂ lₙ l₃ l₄ l₅) K) $
                    assigns ! (of_opd ! (local ! 23 refl)) (itself !) (init ! 31 refl (R.typed 𝓛 (Ok v) _ ok-is)) $
                    -- the borrow is closed at the new count and list
                    drop ! $ closes-at ! tt h (record { count = v.count; list = v.value })
                    (record-is (record { count = v.count; list = v.value }) n-is l-is) b o $
                    returns ! (look ! 27 refl) $ gone ! 27 refl refl $ gone ! 25 refl refl $
                    gone ! 23 refl refl $ gone ! 21 refl refl $ gone ! 19 refl refl $ gone ! 17 refl refl $
                    gone ! 15 refl refl $ gone ! 13 refl refl $ gone ! 11 refl refl $ gone ! 9 refl refl $
                    gone ! 7 refl refl $ gone ! 5 refl refl $ free0 ! $ keep ! (0 ∷ 1 ∷ 2 ∷ 3 ∷ 4 ∷ []) $
                    by ! (exits none V 𝓛 κ κ₁ q q₁ y ws c a (Ok v) (record { count = v.count; list = v.value }) ws'
                    (Y.done c h ws.now v ws' e) m ok-is c-is)),
                ((λ k. absurd (omega (arith, k))), tt),
              ))))))
          | Err d ↦ λ ws' e m.
              peeks ! R.row (Is R.row) (shows 𝓛 R.row) (Err d) (u ∷ []) (λ is.
              naming (owes-err (read-of T) parsing-error d (owed-err (read-of T) parsing-error d _ is)) (λ err-is.
              land ! (itself !) (init ! 23 refl (R.typed 𝓛 (Err d) u is)) $
              rewrite ! 23 (λ (z : Val). ‵ (fat full_share R.mir lₛ 0 z)) (ap only (R.tells (Err d) (u ∷ []) is)) refl $
              first ! $ by_variants ! 23 (whole !)
              (load ! (from ! (vrt ! refl (fld ! refl (stop !)))) (look_tag ! 23 (whole !))) tt (
                (λ k. absurd (omega (arith, k))),
                (
                  (λ k.
                      skips ! $ exec ! C Λ (F i₀ i₁ i₂ i₃ lₛ lᵥ l₁ l₂ lₙ l₃ l₄ l₅) rest (at_ret
                      (F i₀ i₁ i₂ i₃ lₛ lᵥ l₁ l₂ lₙ l₃ l₄ l₅) K) $
                      assigns ! (of_opd ! (local ! 23 refl)) (itself !) (init ! 31 refl (R.typed 𝓛 (Err d) _ err-is)) $
                      -- the borrow is closed
                      drop ! $ closes-at ! tt h h was b o $
                      returns ! (look ! 27 refl) $ gone ! 27 refl refl $ gone ! 25 refl refl $
                      gone ! 23 refl refl $ gone ! 21 refl refl $ gone ! 19 refl refl $ move ! (17 ∷ 18 ∷ []) $ free1 ! $
                      gone ! 15 refl refl $ gone ! 13 refl refl $ gone ! 11 refl refl $ gone ! 9 refl refl $
                      move ! (7 ∷ 8 ∷ []) $ free1 ! $ move ! (5 ∷ 6 ∷ []) $ free1 ! $ free0 ! $
                      keep ! (0 ∷ 1 ∷ 2 ∷ 3 ∷ 4 ∷ []) $
                      by ! (exits none V 𝓛 κ κ₁ q q₁ y ws c a (Err d) h ws' (Y.refused c h ws.now d ws' e) m err-is
                      c-is)),
                  tt,
                ),
              )))
        ]))))))))))))))

  module _ {M : Type 1} {𝓤 : Ura M} (𝓛 : Logic 𝓤) where
    open 𝓛 use {H}

    pub relists : (𝓣 : Tables 𝓤 H) → Triple 𝓤 (𝓣.C #core) (Called (one list) Z 𝓤 𝓛) →
        Triple 𝓤 (WpFn 𝓤 H 𝓣.C 𝓣.Λ function) (Lent none V 𝓤 𝓛)
    relists 𝓣 known = meets none V 𝓛 𝓣 function (λ κ κ₁ q q₁ y ws c a ws-is c-is x-is asks.
        walk 𝓛 κ κ₁ q q₁ y ws c a ws-is c-is asks 𝓣.C 𝓣.Λ (fm_of 𝓤 H 𝓛.laws 𝓣) known)
