-- A walk of the functions that are lent a reader and move it on where there is a next cursor: the borrow is opened, a
-- function is called with the row, which is lent to it, and the cursor, the cursor that it gives, if any, is stored in
-- the reader, and the borrow is closed. All that the proof knows of the function called is that it meets its contract.
use mathlib.Core.Path.{refl, ap}
use Prim.Native.Nat.{ℕ}
use native.Mathlib.Omega.{arith}
use mathlib.Core.Bool.{true, false}
use mathlib.Core.List.{List, [], ◌∷◌}
use seplogic.Ra.Ura.{Ura}
use base.Fraction.{full_share}
use mir.Syntax.{Ty, ty_bool, named, field, variant, place, copy, rv_opd, opd_true, opd_false, addr_of, switch, arm}
use mir.Syntax.{no_default}
use mir.Syntax.{Body as Code, seq, assign, call, return, value_local, local as loc, Fn}
use prog.Routine.{Callee}
use mir.Val.{Val, vptr}
use base.Fml.{GName, Lft, Share, fat, flft}
use prog.Wp.{Calls, Loops, WpFn, Tables}
use types.Logic.{Logic}
use contract.Lifetimes.{Lfts, AllOutlive}
use types.Kit.{‵, ◌⊛◌, ◌$◌, ◌∵◌, !, qed, by, move, keep, drop, split, rewrite, fsplit, fsplit3, at_ret}
use types.Part.{whole, sub, look_in, store_in}
use types.Match.{vrt, in_variant, look_tag, by_variants}
use types.Run.{look, init, stop, hop, fld, from, load, addr, of_opd, true_lit, false_lit, and_then, assigns}
use types.Run.{assigns_last}
use types.Run.{land, first, exec, returns, enter, alloc1, alloc0, params1, pass1, free1, free0}
use sound.WpLaws.{FmC, fm_of}
use denote.RattleType.{Denots, owns, flat}
use denote.Laws.{Is, shows}
use denote.Ref.{MutRef}
use denote.Steps.{only, peeks}
use denote.Triple.Statement.{Triple}
use Rattle.std.specs.Prelude.{Some, None}
use Rattle.walks.proofs.Extra as E
use Rattle.walks.proofs.Extra.{Extra, Knowns}
use Rattle.walks.proofs.Operands.{naming, itself, within, gone}
use Rattle.walks.proofs.Plain.{owed-some}
use Rattle.walks.proofs.Whole.{opens-whole}
use Rattle.reader.specs.declared.Tokens.{Tokens}
use Rattle.reader.specs.Answer.{moved}
use Rattle.reader.proofs.Held.{B, reader, cursor-is, cursor-typed}
use Rattle.reader.proofs.Calls.{calls-row}
use Rattle.reader.proofs.Forms.{Call, Way, Trial, Below, next, token-id, tried, trying, cursor, Passed, lent, Lent}
use Rattle.reader.proofs.Lent.{ref-type, row-type, its-row, its-cursor, at, closes-moved, x, vals, args, tok, Post}
use Rattle.reader.proofs.Lent.{Walked, exits, meets}

module _ (X : Extra) (Y : Trial X) (#core : Callee) where
  abbrev V : Way X
  V = tried Y

  abbrev Z : Call X
  Z = trying Y

  -- the code of such a function, which calls #core: its last two statements, and all
  abbrev rest : Code
  rest = seq (assign (place 0 []) (rv_opd (copy (place (at X 4) [])))) return

  abbrev body : Code
  body =
      seq (assign (place (at X 2) []) (addr_of its-row))
      (seq (assign (place (at X 3) []) (rv_opd (copy its-cursor)))
      (seq (call #core (copy (place (at X 2) []) ∷ copy (place (at X 3) []) ∷ E.operands X 2) (place (at X 1) []))
      (seq (switch (copy (place (at X 1) (variant 0 ∷ field 0 ∷ [])))
      (arm (1 ∷ []) (seq (assign (place (at X 0) []) (rv_opd (copy (place (at X 1) (variant 1 ∷ field 1 ∷ [])))))
      (seq (assign its-cursor (rv_opd (copy (place (at X 0) [])))) (assign (place (at X 4) []) (rv_opd opd_true))))
      (arm (0 ∷ []) (assign (place (at X 4) []) (rv_opd opd_false)) no_default)))
      rest)))

  abbrev pub function : Fn
  function = record {
    lifetimes = 2;
    outlives = (1, 0) ∷ [];
    ty_params = [];
    givens = 0;
    params = E.beyond X 1;
    locals = loc ty_bool value_local ∷ loc ref-type value_local ∷ E.locals X (loc cursor.mir value_local
        ∷ loc next.mir value_local ∷ loc row-type value_local ∷ loc cursor.mir value_local
        ∷ loc ty_bool value_local ∷ []);
    body = body;
  }

  -- the locals behind the parameters: the cursor after the token, what is given, the row's address, the cursor and the
  -- answer
  abbrev temps : ℕ → ℕ → ℕ → ℕ → ℕ → List (Ty × ℕ)
  temps l lₛ lᵣ l₂ lₐ = (cursor.mir, l) ∷ (next.mir, lₛ) ∷ (row-type, lᵣ) ∷ (cursor.mir, l₂) ∷ (ty_bool, lₐ) ∷ []

  -- the environment of all
  abbrev F : ℕ → ℕ → E.Blocks X → ℕ → ℕ → ℕ → ℕ → ℕ → List (Ty × ℕ)
  F l₀ l₁ bs l lₛ lᵣ l₂ lₐ = (ty_bool, l₀) ∷ (ref-type, l₁) ∷ E.env X bs (temps l lₛ lᵣ l₂ lₐ)

  module _ {M : Type 1} {𝓤 : Ura M} (𝓛 : Logic 𝓤) (κ κ' : Lft) (q q' : Share) (b o : ℕ) (γ : GName) (h : Tokens)
      (below : Below h.cursor) (bounds : AllOutlive 2 (lent X V).signature.outlives (κ, (κ', tt)))
      (a : Denots (E.rows 2 (κ, (κ', tt)) X)) (x-is : Knowns X (E.out 2 (κ, (κ', tt)) X a)) (C : Calls 𝓤 𝓛.H)
      (Λ : Loops 𝓤 𝓛.H) (fm : FmC 𝓤 𝓛.H 𝓛.laws C) (known : Triple 𝓤 (C #core) (Passed X Z 𝓤 𝓛)) where
    open 𝓛 use {H}

    walk : Walked X V 𝓛 κ κ' q q' b o γ h bounds a (WpFn 𝓤 H C Λ) function
    walk =
        let κs : Lfts 2 = (κ, (κ', tt)) in
        let xs = x X V 𝓛 κ κ' q q' b o γ h bounds a in
        let us = (vals X V 𝓛 κ κ' q q' b o γ h bounds a).1 in
        let K = Post X V 𝓛 κ κ' q q' b o γ h bounds a in
        qed 𝓛 ((‵ (flft κ q) ⊛ tok X V 𝓛 κ κ' q q' b o γ h bounds a) ∷ ‵ (owns (MutRef (named 0) κ
        (B κ') ∷ E.rows 2 κs X)
        (args X V 𝓛 κ κ' q q' b o γ h bounds a) (vals X V 𝓛 κ κ' q q' b o γ h bounds a)) ∷ []) ∵
        enter ! C Λ function (vptr b o ∷ flat (E.rows 2 κs X) us) _ $
        alloc1 ! (λ l₀. alloc1 ! (λ l₁. E.allocs-extra 𝓛 X (λ bs. alloc1 ! (λ l. alloc1 ! (λ lₛ. alloc1 ! (λ lᵣ.
        alloc1 ! (λ l₂. alloc1 ! (λ lₐ.
        naming (E.behind 𝓤 H X bs (temps l lₛ lᵣ l₂ lₐ)) (λ spot. alloc0 ! $ params1 ! $
        pass1 ! (init ! 11 refl (tt, tt)) $ move ! (10 ∷ []) $
        E.passes-extra 𝓛 2 κs X bs a x-is (temps l lₛ lᵣ l₂ lₐ) $
        -- the borrow is opened
        move ! (16 ∷ []) $ fsplit ! $ fsplit3 ! $ drop ! $ move ! (18 ∷ []) $ split ! $ move ! (2 ∷ 3 ∷ 0 ∷ []) $
        opens-whole ! tt (reader κ') h b o (λ was.
        -- [the reader's cell; what it owns; the open borrow; obs; auth; 'a's token; what the other parameters own;
        -- their locals; room for the answer; …; for the cursor; …; for the row's address; …; for what is given; …; for
        -- the cursor after the token; …; _1; …; room for _0; …]
        assigns ! (addr ! (from ! (hop ! (look ! 18 refl) (fld ! refl (stop !))))) (within ! (spot 2) (stop !))
        (init ! 12 refl (tt, tt)) $
        assigns ! (of_opd ! (load ! (from ! (hop ! (look ! 18 refl) (fld ! refl (stop !))))
        (look_in ! 0 (sub ! 1 refl (whole !))))) (within ! (spot 3) (stop !))
        (init ! 10 refl (tt, cursor-typed 𝓛 κ' h was)) $
        -- the row is lent
        move ! (5 ∷ []) $ split ! $ move ! (2 ∷ 3 ∷ 0 ∷ []) $
        calls-row X Z 𝓛 C Λ #core fm known κ' q' h b o (cursor-is κ' h was) below xs x-is
        _ _ _ _ _ _ (λ n κs i j.
        and_then ! (load ! (within ! (spot 2) (stop !)) (look ! 12 refl))
        (and_then ! (load ! (within ! (spot 3) (stop !)) (look ! 10 refl))
        (E.reads-extra 𝓛 n κs 2 7 X bs xs refl (E.spots 𝓤 H X bs ((ty_bool, l₀) ∷ (ref-type, l₁) ∷ [])
        (temps l lₛ lᵣ l₂ lₐ))))) (λ u.
        -- [what the callee gives; the reader's cell; what it owns; 'a's token; …; the open borrow; obs; auth; what
        -- the other parameters own; their locals; room for the answer; …; the cursor; …; the row's address; …; room for
        -- what is given; …; for the cursor after the token; …; _1; …; room for _0; …]
        elim [
          | None ↦ λ e.
              peeks ! next.row (Is next.row) (shows 𝓛 next.row) None (u ∷ []) (λ is.
              land ! (within ! (spot 1) (stop !)) (init ! 16 refl (next.typed 𝓛 None u is)) $
              rewrite ! 16 (λ (y : Val). ‵ (fat full_share next.mir lₛ 0 y)) (ap only (next.tells None
              (u ∷ []) is)) refl $
              first ! $ by_variants ! 16 (whole !)
              (load ! (within ! (spot 1) (vrt ! refl (fld ! refl (stop !)))) (look_tag ! 16 (whole !))) tt (
                (λ k. absurd (omega (arith, k))),
                (
                  (λ k.
                      assigns_last ! (of_opd ! (false_lit !)) (within ! (spot 4) (stop !)) (init ! 10 refl (tt, tt)) $
                      exec ! C Λ (F l₀ l₁ bs l lₛ lᵣ l₂ lₐ) rest (at_ret (F l₀ l₁ bs l lₛ lᵣ l₂ lₐ) K) $
                      assigns ! (of_opd ! (load ! (within ! (spot 4) (stop !)) (look ! 10 refl))) (itself !)
                      (init ! 22 refl (tt, tt)) $
                      -- the borrow is closed
                      drop ! $ closes-moved ! tt κ' h h.cursor (cursor-is κ' h was) b o $
                      returns ! (look ! 18 refl) $ gone ! 18 refl refl $ gone ! 16 refl refl $ move ! (5 ∷ []) $
                      E.frees-extra 𝓛 X bs xs $ move ! (13 ∷ 14 ∷ []) $ free1 ! $ gone ! 11 refl refl $ gone ! 9 refl
                      refl $
                      gone ! 7 refl refl $ gone ! 5 refl refl $ free0 ! $ keep ! (0 ∷ 1 ∷ 2 ∷ 3 ∷ []) $
                      by ! (exits X V 𝓛 κ κ' q q' b o γ h bounds a false h (Y.missing h xs e) refl)),
                  tt,
                ),
              ))
          | Some p ↦ λ e.
              peeks ! next.row (Is next.row) (shows 𝓛 next.row) (Some p) (u ∷ []) (λ is.
              naming (owed-some token-id p _ is)
              (λ p-is.
              land ! (within ! (spot 1) (stop !)) (init ! 16 refl (next.typed 𝓛 (Some p) u is)) $
              rewrite ! 16 (λ (y : Val). ‵ (fat full_share next.mir lₛ 0 y)) (ap only (next.tells (Some p) (u ∷ []) is))
              refl $
              first ! $ by_variants ! 16 (whole !)
              (load ! (within ! (spot 1) (vrt ! refl (fld ! refl (stop !)))) (look_tag ! 16 (whole !))) tt (
                (λ k.
                    -- the cursor is stored
                    assigns ! (of_opd ! (load ! (within ! (spot 1) (vrt ! refl (fld ! refl (stop !))))
                    (look_in ! 16 (in_variant ! 1 0 refl refl (whole !))))) (within ! (spot 0) (stop !))
                    (init ! 18 refl (cursor.typed 𝓛 p _ p-is)) $
                    assigns ! (of_opd ! (load ! (within ! (spot 0) (stop !)) (look ! 18 refl)))
                    (from ! (hop ! (look ! 20 refl) (fld ! refl (stop !))))
                    (store_in ! 1 (sub ! 1 refl (whole !)) (cursor.typed 𝓛 p _ p-is)) $
                    assigns_last ! (of_opd ! (true_lit !)) (within ! (spot 4) (stop !)) (init ! 10 refl (tt, tt)) $
                    exec ! C Λ (F l₀ l₁ bs l lₛ lᵣ l₂ lₐ) rest (at_ret (F l₀ l₁ bs l lₛ lᵣ l₂ lₐ) K) $
                    assigns ! (of_opd ! (load ! (within ! (spot 4) (stop !)) (look ! 10 refl))) (itself !)
                    (init ! 22 refl (tt, tt)) $
                    -- the borrow is closed at the new cursor
                    drop ! $ closes-moved ! tt κ' h p p-is b o $
                    returns ! (look ! 18 refl) $ gone ! 18 refl refl $ gone ! 16 refl refl $ move ! (5 ∷ []) $
                    E.frees-extra 𝓛 X bs xs $ gone ! 13 refl refl $ gone ! 11 refl refl $ gone ! 9 refl refl $
                    gone ! 7 refl refl $ gone ! 5 refl refl $ free0 ! $ keep ! (0 ∷ 1 ∷ 2 ∷ 3 ∷ []) $
                    by ! (exits X V 𝓛 κ κ' q q' b o γ h bounds a true (moved h p) (Y.there h xs p e) refl)),
                ((λ k. absurd (omega (arith, k))), tt),
              )))
        ])))))))))))

  module _ {M : Type 1} {𝓤 : Ura M} (𝓛 : Logic 𝓤) where
    open 𝓛 use {H}

    pub tries : (𝓣 : Tables 𝓤 H) → Triple 𝓤 (𝓣.C #core) (Passed X Z 𝓤 𝓛) →
        Triple 𝓤 (WpFn 𝓤 H 𝓣.C 𝓣.Λ function) (Lent X V 𝓤 𝓛)
    tries 𝓣 known = meets X V 𝓛 𝓣 function (λ κ κ' q q' b o γ h below bounds a x-is.
        walk 𝓛 κ κ' q q' b o γ h below bounds a x-is 𝓣.C 𝓣.Λ (fm_of 𝓤 H 𝓛.laws 𝓣) known)
