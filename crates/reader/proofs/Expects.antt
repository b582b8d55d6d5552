-- A walk of the functions that are lent a reader and move it on by an answer, accepted or refused: the borrow is opened,
-- a function is called with the row, which is lent to it, and the cursor, the answer's cursor is stored in the reader,
-- and the borrow is closed. All that the proof knows of the function called is that it meets its contract.
use mathlib.Core.Path.{refl, ap}
use Prim.Native.Nat.{ℕ}
use native.Mathlib.Omega.{arith}
use mathlib.Core.List.{List, [], ◌∷◌}
use seplogic.Ra.Ura.{Ura}
use base.Fraction.{full_share}
use mir.Syntax.{Ty, w8, named, field, variant, place, copy, int, rv_opd, opd_unit, addr_of, aggregate, switch, arm}
use mir.Syntax.{no_default, Body as Code, seq, assign, call, return, value_local, local as loc, Fn}
use prog.Routine.{Callee}
use mir.Val.{Val, vptr}
use base.Fml.{GName, Lft, Share, fat, flft}
use prog.Wp.{Calls, Loops, WpFn, Tables}
use types.Logic.{Logic}
use contract.Lifetimes.{Lfts, AllOutlive}
use types.Kit.{‵, ◌⊛◌, ◌$◌, ◌∵◌, !, qed, by, move, keep, drop, split, rewrite, fsplit, fsplit3, at_ret}
use types.Part.{agg, whole, sub, look_in, store_in}
use types.Match.{vrt, in_variant, look_tag, by_variants}
use types.Run.{look, init, stop, hop, fld, from, load, addr, of_opd, lit, unit_lit, and_then, no_more, assigns}
use types.Run.{assigns_last}
use types.Run.{land, first, exec, returns, enter, alloc1, alloc0, params1, pass1, free1, free0}
use sound.WpLaws.{FmC, fm_of}
use denote.RattleType.{Denots, owns, flat}
use denote.Laws.{Is, shows}
use denote.Ref.{MutRef}
use denote.Steps.{only, peeks}
use denote.Struct.Laws as LL
use denote.Triple.Statement.{Triple}
use Rattle.std.specs.Prelude.{Ok, Err}
use Rattle.walks.proofs.Extra as E
use Rattle.walks.proofs.Extra.{Extra, Knowns}
use Rattle.walks.proofs.Operands.{naming, itself, within, gone}
use Rattle.walks.proofs.Plain.{Plain, struct, nothing, owed-ok, owed-err, owes-ok, owes-err}
use Rattle.walks.proofs.Whole.{opens-whole}
use Rattle.codes.specs.declared.ParsingError.{ParsingError}
use Rattle.codes.specs.contracts.TokenId as I
use Rattle.codes.proofs.TokenId.TheLaws as I'
use Rattle.codes.specs.contracts.ParsingError as G
use Rattle.codes.proofs.ParsingError.TheLaws as G'
use Rattle.reader.specs.declared.Tokens.{Tokens}
use Rattle.reader.specs.Answer.{moved}
use Rattle.reader.proofs.Held.{B, reader, cursor-is, cursor-typed}
use Rattle.reader.proofs.Calls.{calls-row}
use Rattle.reader.proofs.Forms.{Call, Way, Expectation, Below, cursor, token-id, parsing-error, consumed, met}
use Rattle.reader.proofs.Forms.{expected, expecting, Passed, lent, Lent}
use Rattle.reader.proofs.Lent.{ref-type, row-type, its-row, its-cursor, at, closes-moved, x, vals, args, tok, Post}
use Rattle.reader.proofs.Lent.{Walked, exits, meets}

-- the cursor of a refusal is of its type
refused-cursor : (e : ParsingError) → Is G.the_row e (G'.lowered e ∷ []) →
    Is I.the_row e.cursor (I'.lowered e.cursor ∷ [])
refused-cursor e is = (LL.owed G.the_type G'.the_laws e _ is).0

abbrev error : Plain
error = struct G.the_type G'.the_laws G'.the_plain G'.the_copy

ok-is : Is met.row (Ok tt) (met.val (Ok tt) ∷ [])
ok-is = owes-ok nothing parsing-error tt refl

module _ (X : Extra) (Y : Expectation X) (#core : Callee) where
  abbrev V : Way X
  V = expected Y

  abbrev Z : Call X
  Z = expecting Y

  -- the code of such a function, which calls #core: its last two statements, and all
  abbrev rest : Code
  rest = seq (assign (place 0 []) (rv_opd (copy (place (at X 5) [])))) return

  abbrev body : Code
  body =
      seq (assign (place (at X 3) []) (addr_of its-row))
      (seq (assign (place (at X 4) []) (rv_opd (copy its-cursor)))
      (seq (call #core (copy (place (at X 3) []) ∷ copy (place (at X 4) []) ∷ E.operands X 2) (place (at X 2) []))
      (seq (switch (copy (place (at X 2) (variant 0 ∷ field 0 ∷ [])))
      (arm (0 ∷ []) (seq (assign (place (at X 0) []) (rv_opd (copy (place (at X 2) (variant 0 ∷ field 1 ∷ [])))))
      (seq (assign its-cursor (rv_opd (copy (place (at X 0) []))))
      (assign (place (at X 5) []) (aggregate (int w8 0 ∷ opd_unit ∷ [])))))
      (arm (1 ∷ []) (seq (assign (place (at X 1) []) (rv_opd (copy (place (at X 2) (variant 1 ∷ field 1 ∷ [])))))
      (seq (assign (place (at X 6) []) (rv_opd (copy (place (at X 1) (field 0 ∷ [])))))
      (seq (assign its-cursor (rv_opd (copy (place (at X 6) []))))
      (assign (place (at X 5) []) (aggregate (int w8 1 ∷ copy (place (at X 1) []) ∷ [])))))) no_default)))
      rest)))

  abbrev pub function : Fn
  function = record {
    lifetimes = 2;
    outlives = (1, 0) ∷ [];
    ty_params = [];
    givens = 0;
    params = E.beyond X 1;
    locals = loc met.mir value_local ∷ loc ref-type value_local ∷ E.locals X (loc cursor.mir value_local
        ∷ loc (G'.mir) value_local ∷ loc consumed.mir value_local ∷ loc row-type value_local
        ∷ loc cursor.mir value_local ∷ loc met.mir value_local ∷ loc cursor.mir value_local ∷ []);
    body = body;
  }

  -- the locals behind the parameters: the cursor after the token, the refusal, what is given, the row's address, the
  -- cursor, the answer, and the cursor after a token that is refused
  abbrev temps : ℕ → ℕ → ℕ → ℕ → ℕ → ℕ → ℕ → List (Ty × ℕ)
  temps l lₑ lₛ lᵣ l₂ lₐ l₃ =
      (cursor.mir, l) ∷ (G'.mir, lₑ) ∷ (consumed.mir, lₛ) ∷ (row-type, lᵣ) ∷ (cursor.mir, l₂) ∷ (met.mir, lₐ)
      ∷ (cursor.mir, l₃) ∷ []

  -- the environment of all
  abbrev F : ℕ → ℕ → E.Blocks X → ℕ → ℕ → ℕ → ℕ → ℕ → ℕ → ℕ → List (Ty × ℕ)
  F l₀ l₁ bs l lₑ lₛ lᵣ l₂ lₐ l₃ = (met.mir, l₀) ∷ (ref-type, l₁) ∷ E.env X bs (temps l lₑ lₛ lᵣ l₂ lₐ l₃)

  module _ {M : Type 1} {𝓤 : Ura M} (𝓛 : Logic 𝓤) (κ κ' : Lft) (q q' : Share) (b o : ℕ) (γ : GName) (h : Tokens)
      (below : Below h.cursor) (bounds : AllOutlive 2 (lent X V).signature.outlives (κ, (κ', tt)))
      (a : Denots (E.rows 2 (κ, (κ', tt)) X)) (x-is : Knowns X (E.out 2 (κ, (κ', tt)) X a)) (C : Calls 𝓤 𝓛.H)
      (Λ : Loops 𝓤 𝓛.H) (fm : FmC 𝓤 𝓛.H 𝓛.laws C) (known : Triple 𝓤 (C #core) (Passed X Z 𝓤 𝓛)) where
    open 𝓛 use {H}

    walk : Walked X V 𝓛 κ κ' q q' b o γ h bounds a (WpFn 𝓤 H C Λ) function
    walk =
        let κs : Lfts 2 = (κ, (κ', tt)) in
        let xs = x X V 𝓛 κ κ' q q' b o γ h bounds a in
        let us = (vals X V 𝓛 κ κ' q q' b o γ h bounds a).1 in
        let K = Post X V 𝓛 κ κ' q q' b o γ h bounds a in
        qed 𝓛 ((‵ (flft κ q) ⊛ tok X V 𝓛 κ κ' q q' b o γ h bounds a) ∷ ‵ (owns (MutRef (named 0) κ
        (B κ') ∷ E.rows 2 κs X)
        (args X V 𝓛 κ κ' q q' b o γ h bounds a) (vals X V 𝓛 κ κ' q q' b o γ h bounds a)) ∷ []) ∵
        enter ! C Λ function (vptr b o ∷ flat (E.rows 2 κs X) us) _ $
        alloc1 ! (λ l₀. alloc1 ! (λ l₁. E.allocs-extra 𝓛 X (λ bs. alloc1 ! (λ l. alloc1 ! (λ lₑ. alloc1 ! (λ lₛ.
        alloc1 ! (λ lᵣ. alloc1 ! (λ l₂. alloc1 ! (λ lₐ. alloc1 ! (λ l₃.
        naming (E.behind 𝓤 H X bs (temps l lₑ lₛ lᵣ l₂ lₐ l₃)) (λ spot. alloc0 ! $ params1 ! $
        pass1 ! (init ! 15 refl (tt, tt)) $ move ! (14 ∷ []) $
        E.passes-extra 𝓛 2 κs X bs a x-is (temps l lₑ lₛ lᵣ l₂ lₐ l₃) $
        -- the borrow is opened
        move ! (20 ∷ []) $ fsplit ! $ fsplit3 ! $ drop ! $ move ! (22 ∷ []) $ split ! $ move ! (2 ∷ 3 ∷ 0 ∷ []) $
        opens-whole ! tt (reader κ') h b o (λ was.
        -- [the reader's cell; what it owns; the open borrow; obs; auth; 'a's token; what the other parameters own;
        -- their locals; room for the locals behind them, the last one first; _1; …; room for _0; …]
        assigns ! (addr ! (from ! (hop ! (look ! 22 refl) (fld ! refl (stop !))))) (within ! (spot 3) (stop !))
        (init ! 14 refl (tt, tt)) $
        assigns ! (of_opd ! (load ! (from ! (hop ! (look ! 22 refl) (fld ! refl (stop !))))
        (look_in ! 0 (sub ! 1 refl (whole !))))) (within ! (spot 4) (stop !))
        (init ! 12 refl (tt, cursor-typed 𝓛 κ' h was)) $
        -- the row is lent
        move ! (5 ∷ []) $ split ! $ move ! (2 ∷ 3 ∷ 0 ∷ []) $
        calls-row X Z 𝓛 C Λ #core fm known κ' q' h b o (cursor-is κ' h was) below xs x-is
        _ _ _ _ _ _ (λ n κs i j.
        and_then ! (load ! (within ! (spot 3) (stop !)) (look ! 14 refl))
        (and_then ! (load ! (within ! (spot 4) (stop !)) (look ! 12 refl))
        (E.reads-extra 𝓛 n κs 2 7 X bs xs refl (E.spots 𝓤 H X bs ((met.mir, l₀) ∷ (ref-type, l₁) ∷ [])
        (temps l lₑ lₛ lᵣ l₂ lₐ l₃))))) (λ u.
        -- [what the callee gives; the reader's cell; what it owns; 'a's token; …; the open borrow; obs; auth; what the
        -- other parameters own; their locals; room for the locals behind them, the last one first; _1; …; room for
        -- _0; …]
        elim [
          | Ok p ↦ λ e.
              peeks ! consumed.row (Is consumed.row) (shows 𝓛 consumed.row) (Ok p) (u ∷ []) (λ is.
              naming (owed-ok token-id parsing-error p _ is) (λ p-is.
              land ! (within ! (spot 2) (stop !)) (init ! 18 refl (consumed.typed 𝓛 (Ok p) u is)) $
              rewrite ! 18 (λ (y : Val). ‵ (fat full_share consumed.mir lₛ 0 y)) (ap only (consumed.tells (Ok p)
              (u ∷ []) is)) refl $
              first ! $ by_variants ! 18 (whole !)
              (load ! (within ! (spot 2) (vrt ! refl (fld ! refl (stop !)))) (look_tag ! 18 (whole !))) tt (
                (λ k.
                    -- the cursor is stored, and the answer
                    assigns ! (of_opd ! (load ! (within ! (spot 2) (vrt ! refl (fld ! refl (stop !))))
                    (look_in ! 18 (in_variant ! 0 0 refl refl (whole !))))) (within ! (spot 0) (stop !))
                    (init ! 22 refl (cursor.typed 𝓛 p _ p-is)) $
                    assigns ! (of_opd ! (load ! (within ! (spot 0) (stop !)) (look ! 22 refl)))
                    (from ! (hop ! (look ! 24 refl) (fld ! refl (stop !))))
                    (store_in ! 1 (sub ! 1 refl (whole !)) (cursor.typed 𝓛 p _ p-is)) $
                    assigns_last ! (agg ! (and_then ! (lit ! tt) (and_then ! (unit_lit !) (no_more !))))
                    (within ! (spot 5) (stop !)) (init ! 12 refl (met.typed 𝓛 (Ok tt) _ ok-is)) $
                    exec ! C Λ (F l₀ l₁ bs l lₑ lₛ lᵣ l₂ lₐ l₃) rest (at_ret (F l₀ l₁ bs l lₑ lₛ lᵣ l₂ lₐ l₃) K) $
                    assigns ! (of_opd ! (load ! (within ! (spot 5) (stop !)) (look ! 12 refl))) (itself !)
                    (init ! 26 refl (met.typed 𝓛 (Ok tt) _ ok-is)) $
                    -- the borrow is closed at the new cursor
                    drop ! $ closes-moved ! tt κ' h p p-is b o $
                    returns ! (look ! 22 refl) $ gone ! 22 refl refl $ gone ! 20 refl refl $ move ! (5 ∷ []) $
                    E.frees-extra 𝓛 X bs xs $ gone ! 17 refl refl $ move ! (15 ∷ 16 ∷ []) $ free1 ! $
                    gone ! 13 refl refl $ gone ! 11 refl refl $ gone ! 9 refl refl $ gone ! 7 refl refl $
                    move ! (5 ∷ 6 ∷ []) $ free1 ! $ free0 ! $ keep ! (0 ∷ 1 ∷ 2 ∷ 3 ∷ []) $
                    by ! (exits X V 𝓛 κ κ' q q' b o γ h bounds a (Ok tt) (moved h p) (Y.read h xs p e) ok-is)),
                ((λ k. absurd (omega (arith, k))), tt),
              )))
          | Err d ↦ λ e.
              peeks ! consumed.row (Is consumed.row) (shows 𝓛 consumed.row) (Err d) (u ∷ []) (λ is.
              naming (owed-err token-id parsing-error d _ is) (λ d-is.
              naming (owes-err nothing parsing-error d d-is) (λ err-is.
              land ! (within ! (spot 2) (stop !)) (init ! 18 refl (consumed.typed 𝓛 (Err d) u is)) $
              rewrite ! 18 (λ (y : Val). ‵ (fat full_share consumed.mir lₛ 0 y)) (ap only (consumed.tells (Err d)
              (u ∷ []) is)) refl $
              first ! $ by_variants ! 18 (whole !)
              (load ! (within ! (spot 2) (vrt ! refl (fld ! refl (stop !)))) (look_tag ! 18 (whole !))) tt (
                (λ k. absurd (omega (arith, k))),
                (
                  (λ k.
                      -- the cursor is stored, and the answer
                      assigns ! (of_opd ! (load ! (within ! (spot 2) (vrt ! refl (fld ! refl (stop !))))
                      (look_in ! 18 (in_variant ! 1 0 refl refl (whole !))))) (within ! (spot 1) (stop !))
                      (init ! 20 refl (error.typed 𝓛 d _ d-is)) $
                      assigns ! (of_opd ! (load ! (within ! (spot 1) (fld ! refl (stop !))) (look_in ! 20
                      (sub ! 0 refl (whole !))))) (within ! (spot 6) (stop !))
                      (init ! 10 refl (cursor.typed 𝓛 d.cursor _ (refused-cursor d d-is))) $
                      assigns ! (of_opd ! (load ! (within ! (spot 6) (stop !)) (look ! 10 refl)))
                      (from ! (hop ! (look ! 24 refl) (fld ! refl (stop !))))
                      (store_in ! 1 (sub ! 1 refl (whole !)) (cursor.typed 𝓛 d.cursor _ (refused-cursor d d-is))) $
                      assigns_last ! (agg ! (and_then ! (lit ! tt) (and_then ! (load ! (within ! (spot 1) (stop !))
                      (look ! 20 refl)) (no_more !)))) (within ! (spot 5) (stop !))
                      (init ! 12 refl (met.typed 𝓛 (Err d) _ err-is)) $
                      exec ! C Λ (F l₀ l₁ bs l lₑ lₛ lᵣ l₂ lₐ l₃) rest (at_ret (F l₀ l₁ bs l lₑ lₛ lᵣ l₂ lₐ l₃) K) $
                      assigns ! (of_opd ! (load ! (within ! (spot 5) (stop !)) (look ! 12 refl))) (itself !)
                      (init ! 26 refl (met.typed 𝓛 (Err d) _ err-is)) $
                      -- the borrow is closed at the new cursor
                      drop ! $ closes-moved ! tt κ' h d.cursor (refused-cursor d d-is) b o $
                      returns ! (look ! 22 refl) $ gone ! 22 refl refl $ gone ! 20 refl refl $ move ! (5 ∷ []) $
                      E.frees-extra 𝓛 X bs xs $ move ! (17 ∷ 18 ∷ []) $ free1 ! $ gone ! 15 refl refl $
                      gone ! 13 refl refl $ gone ! 11 refl refl $ gone ! 9 refl refl $ gone ! 7 refl refl $
                      gone ! 5 refl refl $ free0 ! $ keep ! (0 ∷ 1 ∷ 2 ∷ 3 ∷ []) $
                      by ! (exits X V 𝓛 κ κ' q q' b o γ h bounds a (Err d) (moved h d.cursor) (Y.refused h xs d e)
                      err-is)),
                  tt,
                ),
              ))))
        ])))))))))))))

  module _ {M : Type 1} {𝓤 : Ura M} (𝓛 : Logic 𝓤) where
    open 𝓛 use {H}

    pub expects : (𝓣 : Tables 𝓤 H) → Triple 𝓤 (𝓣.C #core) (Passed X Z 𝓤 𝓛) →
        Triple 𝓤 (WpFn 𝓤 H 𝓣.C 𝓣.Λ function) (Lent X V 𝓤 𝓛)
    expects 𝓣 known = meets X V 𝓛 𝓣 function (λ κ κ' q q' b o γ h below bounds a x-is.
        walk 𝓛 κ κ' q q' b o γ h below bounds a x-is 𝓣.C 𝓣.Λ (fm_of 𝓤 H 𝓛.laws 𝓣) known)
