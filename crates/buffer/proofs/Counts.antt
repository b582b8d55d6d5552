-- A walk of the functions that are lent the record and change its count: the borrow is opened, a function is called
-- with the words, the cursor, the count and further parameters, the count of its answer, where it read something, is
-- stored in the record, and the borrow is closed. All that the proof knows of the function called is that it meets its
-- contract.
use mathlib.Core.Path.{refl, ap}
use Prim.Native.Nat.{ℕ}
use native.Mathlib.Omega.{arith}
use mathlib.Core.List.{List, [], ◌∷◌}
use seplogic.Ra.Ura.{Ura}
use base.Fraction.{full_share}
use mir.Syntax.{Ty, ty_int, w32, named, deref, field, variant, place, copy, rv_opd, addr_of, aggregate, switch, arm}
use mir.Syntax.{no_default, Body as Code, seq, assign, call, return, skip, value_local, local as loc, Fn}
use prog.Routine.{Callee}
use mir.Val.{Val, vptr}
use base.Fml.{Lft, Share, fat, flft}
use prog.Wp.{Calls, Loops, WpFn, Tables}
use types.Logic.{Logic}
use contract.Lifetimes.{Lfts}
use types.Kit.{‵, ◌⊛◌, ◌$◌, ◌∵◌, !, qed, by, move, keep, drop, split, rewrite, fsplit, fsplit3, at_ret}
use types.Part.{whole, sub, look_in, store_in}
use types.Match.{vrt, in_variant, look_tag, by_variants}
use types.Run.{look, init, stop, hop, fld, from, load, of_opd, and_then, assigns, assigns_last, skips, land}
use types.Run.{first, exec, returns, enter, alloc1, alloc0, params1, pass1, free1, free0}
use sound.WpLaws.{FmC, fm_of}
use denote.RattleType.{Denots, owns, flat}
use denote.Laws.{Is, shows}
use denote.Builtin.{u32}
use denote.Ref.{MutBor, MutRef}
use denote.Slice.{MutSlice, mut_slice_Lawful}
use denote.Steps.{only, peeks}
use denote.Triple.Statement.{Triple}
use Rattle.std.specs.Prelude.{Ok, Err}
use Rattle.walks.proofs.Extra as E
use Rattle.walks.proofs.Extra.{Extra, Knowns}
use Rattle.walks.proofs.Operands.{naming, itself, local, within, gone}
use Rattle.walks.proofs.Plain.{Plain, Argument, number, owed-ok, owed-err, owes-ok, owes-err}
use Rattle.walks.proofs.Whole.{opens-whole}
use Rattle.codes.specs.declared.TokenId.{TokenId}
use Rattle.codes.specs.contracts.TokenId as I
use Rattle.buffer.specs.declared.ParseBuffer.{ParseBuffer}
use Rattle.buffer.specs.contracts.ParseBuffer as P
use Rattle.buffer.proofs.Held.{buffer, node-id, cursor, column, read, read-of, answer, parsing-error, relends}
use Rattle.buffer.proofs.Held.{read-count, count-is, list-is, record-is}
use Rattle.buffer.proofs.Forms.{Call, Way, Counting, counting, counted, Called, Lent}
use Rattle.buffer.proofs.Calls.{calls-words}
use Rattle.buffer.proofs.Changed.{ref-type, words-type, pointer-type, again-type, its-count, at, closes-at, x, vals}
use Rattle.buffer.proofs.Changed.{args}
use Rattle.buffer.proofs.Changed.{toks, Post, Walked, exits, meets}

module _ (X : Extra) (Y : Counting X) (#core : Callee) where
  abbrev V : Way X
  V = counted Y

  abbrev T : Argument
  T = node-id

  abbrev Z : Call X
  Z = counting Y

  abbrev R : Plain
  R = answer T

  -- the code of such a function, which calls #core: its last two statements, and all
  abbrev rest : Code
  rest = seq (assign (place 0 []) (rv_opd (copy (place (at X 0) [])))) return

  abbrev body : Code
  body =
      seq (assign (place (at X 2) []) (addr_of (place 2 (field 0 ∷ deref (ty_int w32) ∷ []))))
      (seq (assign (place (at X 3) []) (aggregate (copy (place (at X 2) []) ∷ copy (place 2 (field 1 ∷ [])) ∷ [])))
      (seq (assign (place (at X 4) []) (rv_opd (copy its-count)))
      (seq (call #core (copy (place (at X 3) []) ∷ copy (place 3 []) ∷ copy (place (at X 4) []) ∷ E.operands X 4)
      (place (at X 0) []))
      (seq (switch (copy (place (at X 0) (variant 0 ∷ field 0 ∷ [])))
      (arm (0 ∷ []) (seq (assign (place (at X 1) []) (rv_opd (copy (place (at X 0) (variant 0 ∷ field 1 ∷ [])))))
      (seq (assign (place (at X 5) []) (rv_opd (copy (place (at X 1) (field 1 ∷ [])))))
      (assign its-count (rv_opd (copy (place (at X 5) []))))))
      (arm (1 ∷ []) skip no_default)))
      rest))))

  abbrev pub function : Fn
  function = record {
    lifetimes = 2;
    outlives = [];
    ty_params = [];
    givens = 0;
    params = E.beyond X 3;
    locals = loc R.mir value_local ∷ loc ref-type value_local ∷ loc words-type value_local ∷ loc cursor.mir value_local
        ∷ E.locals X (loc R.mir value_local ∷ loc (read T).mir value_local ∷ loc pointer-type value_local
        ∷ loc again-type value_local ∷ loc (ty_int w32) value_local ∷ loc (ty_int w32) value_local ∷ []);
    body = body;
  }

  -- the locals behind the parameters: the answer, what was read, the words' pointer and the words, the count, and the
  -- next count
  abbrev temps : ℕ → ℕ → ℕ → ℕ → ℕ → ℕ → List (Ty × ℕ)
  temps lₛ lᵥ l₁ l₂ lₙ l₃ =
      (R.mir, lₛ) ∷ ((read T).mir, lᵥ) ∷ (pointer-type, l₁) ∷ (again-type, l₂) ∷ (ty_int w32, lₙ) ∷ (ty_int w32, l₃)
      ∷ []

  -- the environment of all
  abbrev F : ℕ → ℕ → ℕ → ℕ → E.Blocks X → ℕ → ℕ → ℕ → ℕ → ℕ → ℕ → List (Ty × ℕ)
  F i₀ i₁ i₂ i₃ bs lₛ lᵥ l₁ l₂ lₙ l₃ =
      (R.mir, i₀) ∷ (ref-type, i₁) ∷ (words-type, i₂) ∷ (cursor.mir, i₃) ∷ E.env X bs (temps lₛ lᵥ l₁ l₂ lₙ l₃)

  module _ {M : Type 1} {𝓤 : Ura M} (𝓛 : Logic 𝓤) (κ κ₁ : Lft) (q q₁ : Share) (y : MutBor ParseBuffer)
      (ws : MutBor (List ℕ)) (c : TokenId) (a : Denots (E.rows 2 (κ, (κ₁, tt)) X))
      (ws-is : Is (MutSlice (named 1) κ₁ u32) ws (column ws ∷ [])) (c-is : Is I.the_row c (cursor.val c ∷ []))
      (x-is : Knowns X (E.out 2 (κ, (κ₁, tt)) X a)) (asks : Y.Asks y.now.count ws.now (E.out 2 (κ, (κ₁, tt)) X a))
      (C : Calls 𝓤 𝓛.H) (Λ : Loops 𝓤 𝓛.H) (fm : FmC 𝓤 𝓛.H 𝓛.laws C)
      (known : Triple 𝓤 (C #core) (Called X Z 𝓤 𝓛)) where
    open 𝓛 use {H}

    walk : Walked X V 𝓛 κ κ₁ q q₁ y ws c a (WpFn 𝓤 H C Λ) function
    walk =
        let κs : Lfts 2 = (κ, (κ₁, tt)) in
        let b = y.ref_ptr.0 in let o = y.ref_ptr.1 in let h = y.now in
        let xs = x X V 𝓛 κ κ₁ q q₁ y ws c a in
        let us = (vals X V 𝓛 κ κ₁ q q₁ y ws c a).1.1.1 in
        let K = Post X V 𝓛 κ κ₁ q q₁ y ws c a in
        qed 𝓛 ((‵ (flft κ q) ⊛ toks X V 𝓛 κ κ₁ q q₁ y ws c a) ∷ ‵ (owns (MutRef (named 0) κ P.the_row
        ∷ MutSlice (named 1) κ₁ u32 ∷ I.the_row ∷ E.rows 2 κs X) (args X V 𝓛 κ κ₁ q q₁ y ws c a)
        (vals X V 𝓛 κ κ₁ q q₁ y ws c a)) ∷ []) ∵
        enter ! C Λ function (vptr b o ∷ column ws ∷ cursor.val c ∷ flat (E.rows 2 κs X) us) _ $
        alloc1 ! (λ i₀. alloc1 ! (λ i₁. alloc1 ! (λ i₂. alloc1 ! (λ i₃. E.allocs-extra 𝓛 X (λ bs.
        alloc1 ! (λ lₛ. alloc1 ! (λ lᵥ. alloc1 ! (λ l₁. alloc1 ! (λ l₂. alloc1 ! (λ lₙ. alloc1 ! (λ l₃.
        naming (E.behind 𝓤 H X bs (temps lₛ lᵥ l₁ l₂ lₙ l₃)) (λ spot. alloc0 ! $ params1 ! $
        pass1 ! (init ! 17 refl (tt, tt)) $
        pass1 ! (init ! 15 refl ((mut_slice_Lawful 𝓛 (named 1) κ₁ u32).typed ws _ ws-is).0) $
        pass1 ! (init ! 13 refl (cursor.typed 𝓛 c _ c-is)) $ move ! (12 ∷ []) $
        E.passes-extra 𝓛 2 κs X bs a x-is (temps lₛ lᵥ l₁ l₂ lₙ l₃) $
        -- the borrow is opened
        move ! (22 ∷ []) $ fsplit ! $ fsplit3 ! $ drop ! $ move ! (24 ∷ []) $ split ! $ move ! (2 ∷ 3 ∷ 0 ∷ []) $
        opens-whole ! tt buffer h b o (λ was.
        -- [the record's cell; what it owns; the open borrow; obs; auth; the words' token; what the other parameters
        -- own; the further ones' locals; room for the locals behind them, the last one first; _3; …; _2; …; _1; …; room
        -- for _0; …]
        relends ! ws 22 14 12 refl (spot 2) (spot 3) refl refl refl refl refl
        ((mut_slice_Lawful 𝓛 (named 1) κ₁ u32).typed ws _ ws-is).0 $
        assigns ! (of_opd ! (load ! (from ! (hop ! (look ! 24 refl) (fld ! refl (stop !)))) (look_in ! 0 (sub ! 0 refl
        (whole !))))) (within ! (spot 4) (stop !)) (init ! 10 refl ((number w32).typed 𝓛 h.count _ (count-is h was))) $
        move ! (6 ∷ []) $ fsplit ! $ move ! (0 ∷ 7 ∷ []) $
        -- [what the words own; their token; what the plain parameters own; the record's cell; …]
        calls-words X Z 𝓛 C Λ #core fm known κ₁ q₁ ws c c-is h.count (count-is h was) xs x-is asks
        _ _ _ _ _ _ (λ i.
        and_then ! (load ! (within ! (spot 3) (stop !)) (look ! 12 refl)) (and_then ! (local ! 20 refl)
        (and_then ! (load ! (within ! (spot 4) (stop !)) (look ! 10 refl))
        (E.reads-extra 𝓛 1 (κ₁, tt) 4 7 X bs xs refl (E.spots 𝓤 H X bs ((R.mir, i₀) ∷ (ref-type, i₁)
        ∷ (words-type, i₂) ∷ (cursor.mir, i₃) ∷ []) (temps lₛ lᵥ l₁ l₂ lₙ l₃)))))) (λ u.
        -- [what the callee gives; the words' token; their last list; what the plain parameters own; the record's cell;
        -- what it owns; the open borrow; obs; auth; the further parameters' locals; …]
        elim [
          | Ok v ↦ λ ws' e m.
              peeks ! R.row (Is R.row) (shows 𝓛 R.row) (Ok v) (u ∷ []) (λ is.
              naming (owed-ok (read-of T) parsing-error v _ is) (λ v-is.
              naming (owes-ok (read-of T) parsing-error v v-is) (λ ok-is.
              naming (read-count T v v-is) (λ n-is.
              land ! (within ! (spot 0) (stop !)) (init ! 20 refl (R.typed 𝓛 (Ok v) u is)) $
              rewrite ! 20 (λ (z : Val). ‵ (fat full_share R.mir lₛ 0 z)) (ap only (R.tells (Ok v) (u ∷ []) is)) refl $
              first ! $ by_variants ! 20 (whole !)
              (load ! (within ! (spot 0) (vrt ! refl (fld ! refl (stop !)))) (look_tag ! 20 (whole !))) tt (
                (λ k.
                    -- the count is stored
                    assigns ! (of_opd ! (load ! (within ! (spot 0) (vrt ! refl (fld ! refl (stop !))))
                    (look_in ! 20 (in_variant ! 0 0 refl refl (whole !))))) (within ! (spot 1) (stop !))
                    (init ! 18 refl ((read T).typed 𝓛 v _ v-is)) $
                    assigns ! (of_opd ! (load ! (within ! (spot 1) (fld ! refl (stop !)))
                    (look_in ! 18 (sub ! 1 refl (whole !))))) (within ! (spot 5) (stop !))
                    (init ! 10 refl ((number w32).typed 𝓛 v.count _ n-is)) $
                    assigns_last ! (of_opd ! (load ! (within ! (spot 5) (stop !)) (look ! 10 refl)))
                    (from ! (hop ! (look ! 26 refl) (fld ! refl (stop !))))
                    (store_in ! 4 (sub ! 0 refl (whole !)) ((number w32).typed 𝓛 v.count _ n-is)) $
                    exec ! C Λ (F i₀ i₁ i₂ i₃ bs lₛ lᵥ l₁ l₂ lₙ l₃) rest (at_ret
                    (F i₀ i₁ i₂ i₃ bs lₛ lᵥ l₁ l₂ lₙ l₃) K) $
                    assigns ! (of_opd ! (load ! (within ! (spot 0) (stop !)) (look ! 20 refl))) (itself !)
                    (init ! 28 refl (R.typed 𝓛 (Ok v) _ ok-is)) $
                    -- the borrow is closed at the new count
                    drop ! $ closes-at ! tt h (record { count = v.count; list = h.list })
                    (record-is (record { count = v.count; list = h.list }) n-is (list-is h was)) b o $
                    returns ! (look ! 24 refl) $ gone ! 24 refl refl $ gone ! 22 refl refl $ gone ! 20 refl refl $
                    gone ! 18 refl refl $ move ! (5 ∷ []) $ E.frees-extra 𝓛 X bs xs $
                    gone ! 15 refl refl $ gone ! 13 refl refl $ gone ! 11 refl refl $
                    gone ! 9 refl refl $ gone ! 7 refl refl $ gone ! 5 refl refl $ free0 ! $
                    keep ! (0 ∷ 1 ∷ 2 ∷ 3 ∷ 4 ∷ []) $
                    by ! (exits X V 𝓛 κ κ₁ q q₁ y ws c a (Ok v) (record { count = v.count; list = h.list }) ws'
                    (Y.done c h ws.now xs v ws' e) m ok-is c-is)),
                ((λ k. absurd (omega (arith, k))), tt),
              )))))
          | Err d ↦ λ ws' e m.
              peeks ! R.row (Is R.row) (shows 𝓛 R.row) (Err d) (u ∷ []) (λ is.
              naming (owes-err (read-of T) parsing-error d (owed-err (read-of T) parsing-error d _ is)) (λ err-is.
              land ! (within ! (spot 0) (stop !)) (init ! 20 refl (R.typed 𝓛 (Err d) u is)) $
              rewrite ! 20 (λ (z : Val). ‵ (fat full_share R.mir lₛ 0 z)) (ap only (R.tells (Err d) (u ∷ []) is)) refl $
              first ! $ by_variants ! 20 (whole !)
              (load ! (within ! (spot 0) (vrt ! refl (fld ! refl (stop !)))) (look_tag ! 20 (whole !))) tt (
                (λ k. absurd (omega (arith, k))),
                (
                  (λ k.
                      skips ! $ exec ! C Λ (F i₀ i₁ i₂ i₃ bs lₛ lᵥ l₁ l₂ lₙ l₃) rest (at_ret
                      (F i₀ i₁ i₂ i₃ bs lₛ lᵥ l₁ l₂ lₙ l₃) K) $
                      assigns ! (of_opd ! (load ! (within ! (spot 0) (stop !)) (look ! 20 refl))) (itself !)
                      (init ! 28 refl (R.typed 𝓛 (Err d) _ err-is)) $
                      -- the borrow is closed
                      drop ! $ closes-at ! tt h h was b o $
                      returns ! (look ! 24 refl) $ gone ! 24 refl refl $ gone ! 22 refl refl $ gone ! 20 refl refl $
                      gone ! 18 refl refl $ move ! (5 ∷ []) $ E.frees-extra 𝓛 X bs xs $
                      gone ! 15 refl refl $ move ! (13 ∷ 14 ∷ []) $ free1 ! $ gone ! 11 refl refl $
                      gone ! 9 refl refl $ gone ! 7 refl refl $ move ! (5 ∷ 6 ∷ []) $ free1 ! $ free0 ! $
                      keep ! (0 ∷ 1 ∷ 2 ∷ 3 ∷ 4 ∷ []) $
                      by ! (exits X V 𝓛 κ κ₁ q q₁ y ws c a (Err d) h ws' (Y.refused c h ws.now xs d ws' e) m err-is
                      c-is)),
                  tt,
                ),
              )))
        ]))))))))))))))

  module _ {M : Type 1} {𝓤 : Ura M} (𝓛 : Logic 𝓤) where
    open 𝓛 use {H}

    pub counts : (𝓣 : Tables 𝓤 H) → Triple 𝓤 (𝓣.C #core) (Called X Z 𝓤 𝓛) →
        Triple 𝓤 (WpFn 𝓤 H 𝓣.C 𝓣.Λ function) (Lent X V 𝓤 𝓛)
    counts 𝓣 known = meets X V 𝓛 𝓣 function (λ κ κ₁ q q₁ y ws c a ws-is c-is x-is asks.
        walk 𝓛 κ κ₁ q q₁ y ws c a ws-is c-is x-is asks 𝓣.C 𝓣.Λ (fm_of 𝓤 H 𝓛.laws 𝓣) known)
