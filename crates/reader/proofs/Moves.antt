-- A walk of the functions that are lent a reader and move it on by a struct of an answer and a cursor: the borrow is
-- opened, a function is called with the row, which is lent to it, and the cursor, the cursor that it gives is stored in
-- the reader, and the borrow is closed. All that the proof knows of the function called is that it meets its contract.
use mathlib.Core.Path.{refl, ap}
use Prim.Native.Nat.{ℕ}
use mathlib.Core.List.{List, [], ◌∷◌}
use seplogic.Ra.Ura.{Ura}
use base.Fraction.{full_share}
use mir.Syntax.{Ty, named, field, place, copy, rv_opd, addr_of}
use mir.Syntax.{Body as Code, seq, assign, call, return, value_local, local as loc, Fn}
use prog.Routine.{Callee}
use mir.Val.{Val, vptr}
use base.Fml.{GName, Lft, Share, fat, flft}
use prog.Wp.{Calls, Loops, WpFn, Tables}
use types.Logic.{Logic}
use contract.Lifetimes.{Lfts, AllOutlive}
use types.Kit.{‵, ◌⊛◌, ◌$◌, ◌∵◌, !, qed, by, move, keep, drop, split, rewrite, fsplit, fsplit3}
use types.Part.{whole, sub, look_in, store_in}
use types.Run.{look, init, stop, hop, fld, from, load, addr, of_opd, and_then, assigns, land, returns, enter}
use types.Run.{alloc1, alloc0, params1, pass1, free0}
use sound.WpLaws.{FmC, fm_of}
use denote.RattleType.{Denots, owns, flat}
use denote.Laws.{Is, shows}
use denote.Ref.{MutRef}
use denote.Steps.{only, peeks}
use denote.Triple.Statement.{Triple}
use Rattle.walks.proofs.Extra as E
use Rattle.walks.proofs.Extra.{Extra, Knowns}
use Rattle.walks.proofs.Operands.{naming, itself, within, gone}
use Rattle.walks.proofs.Plain.{mir_of}
use Rattle.walks.proofs.Whole.{opens-whole}
use Rattle.reader.specs.declared.Tokens.{Tokens}
use Rattle.reader.specs.Answer.{moved}
use Rattle.reader.proofs.Held.{B, reader, cursor-is, cursor-typed}
use Rattle.reader.proofs.Calls.{calls-row}
use Rattle.reader.proofs.Forms.{Call, Way, Pairing, Below, paired, cursor, Passed, lent, Lent}
use Rattle.reader.proofs.Lent.{ref-type, row-type, its-row, its-cursor, at, closes-moved, x, vals, args, tok}
use Rattle.reader.proofs.Lent.{Walked, exits, meets}

module _ (X : Extra) (Y : Pairing X) (#core : Callee) where
  abbrev V : Way X
  V = Y.way

  abbrev Z : Call X
  Z = paired Y

  -- the code of such a function, which calls #core
  abbrev body : Code
  body =
      seq (assign (place (at X 1) []) (addr_of its-row))
      (seq (assign (place (at X 2) []) (rv_opd (copy its-cursor)))
      (seq (call #core (copy (place (at X 1) []) ∷ copy (place (at X 2) []) ∷ E.operands X 2) (place (at X 0) []))
      (seq (assign (place (at X 3) []) (rv_opd (copy (place (at X 0) (field 1 ∷ [])))))
      (seq (assign its-cursor (rv_opd (copy (place (at X 3) []))))
      (seq (assign (place 0 []) (rv_opd (copy (place (at X 0) (field 0 ∷ []))))) return)))))

  abbrev pub function : Fn
  function = record {
    lifetimes = 2;
    outlives = (1, 0) ∷ [];
    ty_params = [];
    givens = 0;
    params = E.beyond X 1;
    locals = loc V.answer.mir value_local ∷ loc ref-type value_local ∷ E.locals X (loc (mir_of Y.step) value_local
        ∷ loc row-type value_local ∷ loc cursor.mir value_local ∷ loc cursor.mir value_local ∷ []);
    body = body;
  }

  -- the locals behind the parameters: the struct that is given, the row's address, the cursor and the next one
  abbrev temps : ℕ → ℕ → ℕ → ℕ → List (Ty × ℕ)
  temps lₛ lᵣ l l₂ = (mir_of Y.step, lₛ) ∷ (row-type, lᵣ) ∷ (cursor.mir, l) ∷ (cursor.mir, l₂) ∷ []

  module _ {M : Type 1} {𝓤 : Ura M} (𝓛 : Logic 𝓤) (κ κ' : Lft) (q q' : Share) (b o : ℕ) (γ : GName) (h : Tokens)
      (below : Below h.cursor) (bounds : AllOutlive 2 (lent X V).signature.outlives (κ, (κ', tt)))
      (a : Denots (E.rows 2 (κ, (κ', tt)) X)) (x-is : Knowns X (E.out 2 (κ, (κ', tt)) X a)) (C : Calls 𝓤 𝓛.H)
      (Λ : Loops 𝓤 𝓛.H) (fm : FmC 𝓤 𝓛.H 𝓛.laws C) (known : Triple 𝓤 (C #core) (Passed X Z 𝓤 𝓛)) where
    open 𝓛 use {H}

    walk : Walked X V 𝓛 κ κ' q q' b o γ h bounds a (WpFn 𝓤 H C Λ) function
    walk =
        let κs : Lfts 2 = (κ, (κ', tt)) in
        let xs = x X V 𝓛 κ κ' q q' b o γ h bounds a in
        let us = (vals X V 𝓛 κ κ' q q' b o γ h bounds a).1 in
        qed 𝓛 ((‵ (flft κ q) ⊛ tok X V 𝓛 κ κ' q q' b o γ h bounds a) ∷ ‵ (owns (MutRef (named 0) κ (B κ') ∷ E.rows 2 κs X)
        (args X V 𝓛 κ κ' q q' b o γ h bounds a) (vals X V 𝓛 κ κ' q q' b o γ h bounds a)) ∷ []) ∵
        enter ! C Λ function (vptr b o ∷ flat (E.rows 2 κs X) us) _ $
        alloc1 ! (λ l₀. alloc1 ! (λ l₁. E.allocs-extra 𝓛 X (λ bs. alloc1 ! (λ lₛ. alloc1 ! (λ lᵣ.
        alloc1 ! (λ l. alloc1 ! (λ l₂.
        naming (E.behind 𝓤 H X bs (temps lₛ lᵣ l l₂)) (λ spot. alloc0 ! $ params1 ! $
        pass1 ! (init ! 9 refl (tt, tt)) $ move ! (8 ∷ []) $
        E.passes-extra 𝓛 2 κs X bs a x-is (temps lₛ lᵣ l l₂) $
        -- the borrow is opened
        move ! (14 ∷ []) $ fsplit ! $ fsplit3 ! $ drop ! $ move ! (16 ∷ []) $ split ! $ move ! (2 ∷ 3 ∷ 0 ∷ []) $
        opens-whole ! tt (reader κ') h b o (λ was.
        -- [the reader's cell; what it owns; the open borrow; obs; auth; 'a's token; what the other parameters own;
        -- their locals; room for the next cursor; …; the cursor; …; the row's address; …; the struct; …; _1; …; room
        -- for _0; …]
        assigns ! (addr ! (from ! (hop ! (look ! 16 refl) (fld ! refl (stop !))))) (within ! (spot 1) (stop !))
        (init ! 12 refl (tt, tt)) $
        assigns ! (of_opd ! (load ! (from ! (hop ! (look ! 16 refl) (fld ! refl (stop !))))
        (look_in ! 0 (sub ! 1 refl (whole !))))) (within ! (spot 2) (stop !))
        (init ! 10 refl (tt, cursor-typed 𝓛 κ' h was)) $
        -- the row is lent
        move ! (5 ∷ []) $ split ! $ move ! (2 ∷ 3 ∷ 0 ∷ []) $
        calls-row X Z 𝓛 C Λ #core fm known κ' q' h b o (cursor-is κ' h was) below xs x-is
        _ _ _ _ _ _ (λ n κs i j.
        and_then ! (load ! (within ! (spot 1) (stop !)) (look ! 12 refl))
        (and_then ! (load ! (within ! (spot 2) (stop !)) (look ! 10 refl))
        (E.reads-extra 𝓛 n κs 2 7 X bs xs refl (E.spots 𝓤 H X bs ((V.answer.mir, l₀) ∷ (ref-type, l₁) ∷ [])
        (temps lₛ lᵣ l l₂))))) (λ u s e.
        -- [what the callee gives; the reader's cell; what it owns; 'a's token; …; the open borrow; obs; auth; what
        -- the other parameters own; their locals; room for the next cursor; …; the cursor; …; the row's address; …;
        -- room for the struct; …; _1; …; room for _0; …]
        peeks ! Y.step.row (Is Y.step.row) (shows 𝓛 Y.step.row) s (u ∷ []) (λ is.
        land ! (within ! (spot 0) (stop !)) (init ! 16 refl (Y.step.typed 𝓛 s u is)) $
        rewrite ! 16 (λ (y : Val). ‵ (fat full_share (mir_of Y.step) lₛ 0 y)) (ap only (Y.step.tells s (u ∷ []) is))
        refl $
        -- the cursor is stored, and the answer
        assigns ! (of_opd ! (load ! (within ! (spot 0) (fld ! refl (stop !)))
        (look_in ! 16 (sub ! 1 refl (whole !))))) (within ! (spot 3) (stop !))
        (init ! 10 refl (cursor.typed 𝓛 (Y.step.snd s) _ (Y.step.parts s _ is).1)) $
        assigns ! (of_opd ! (load ! (within ! (spot 3) (stop !)) (look ! 10 refl)))
        (from ! (hop ! (look ! 18 refl) (fld ! refl (stop !))))
        (store_in ! 1 (sub ! 1 refl (whole !)) (cursor.typed 𝓛 (Y.step.snd s) _ (Y.step.parts s _ is).1)) $
        assigns ! (of_opd ! (load ! (within ! (spot 0) (fld ! refl (stop !)))
        (look_in ! 16 (sub ! 0 refl (whole !))))) (itself !)
        (init ! 20 refl (V.answer.typed 𝓛 (Y.step.fst s) _ (Y.step.parts s _ is).0)) $
        -- the borrow is closed at the new cursor
        drop ! $ closes-moved ! tt κ' h (Y.step.snd s) (Y.step.parts s _ is).1 b o $
        returns ! (look ! 16 refl) $ gone ! 16 refl refl $ gone ! 14 refl refl $ move ! (5 ∷ []) $
        E.frees-extra 𝓛 X bs xs $ gone ! 11 refl refl $ gone ! 9 refl refl $ gone ! 7 refl refl $ gone ! 5 refl refl $
        free0 ! $ keep ! (0 ∷ 1 ∷ 2 ∷ 3 ∷ []) $
        by ! (exits X V 𝓛 κ κ' q q' b o γ h bounds a (Y.step.fst s) (moved h (Y.step.snd s)) (Y.so h xs s e)
        (Y.step.parts s _ is).0))))))))))))

  module _ {M : Type 1} {𝓤 : Ura M} (𝓛 : Logic 𝓤) where
    open 𝓛 use {H}

    pub moves-on : (𝓣 : Tables 𝓤 H) → Triple 𝓤 (𝓣.C #core) (Passed X Z 𝓤 𝓛) →
        Triple 𝓤 (WpFn 𝓤 H 𝓣.C 𝓣.Λ function) (Lent X V 𝓤 𝓛)
    moves-on 𝓣 known = meets X V 𝓛 𝓣 function (λ κ κ' q q' b o γ h below bounds a x-is.
        walk 𝓛 κ κ' q q' b o γ h below bounds a x-is 𝓣.C 𝓣.Λ (fm_of 𝓤 H 𝓛.laws 𝓣) known)
