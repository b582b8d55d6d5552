-- The row of a reader is lent by `&` to a function, for a lifetime of the call, and comes back: the step for each such
-- call. All that the proof knows of the function called is that it meets its contract.
use mathlib.Core.Path.{subst}
use Prim.Native.Nat.{ℕ}
use mathlib.Core.List.{List, [], ◌∷◌}
use seplogic.Ra.Ura.{Ura}
use base.Fraction.{full_share}
use base.Share
use mir.Syntax.{Opd, Place, Body as Code, seq, call}
use mir.Val.{Val, vptr}
use base.Logic.{ent, id⊢, snd∗, ex_e}
use base.Fml.{Lft, Share, ftrue, flft}
use prog.Routine.{Callee}
use prog.Wp.{Env, Calls, Loops}
use types.Logic.{Logic, sem}
use contract.BorrowLft.{meet_⊑_right}
use contract.Lifetimes.{Lfts}
use contract.Monad.{fact}
use types.Kit.{Item, Post as After, Go, Sq, runs, lands, ‵, raw, some, later, ◌⊛◌, ⋆, ◌$◌, ◌∵◌, !, qed, move, drop}
use types.Kit.{use0, use1, use3, split, join, pick, fjoin, frame, await, done}
use types.Run.{Opds}
use sound.WpLaws.{FmC}
use denote.RattleType.{owns, flat}
use denote.Laws.{Is, valss}
use denote.Steps.{owned, heard, nothing}
use denote.Triple.Statement.{Triple}
use denote.Triple.Call.{calls_at}
use denote.Triple.Clauses.{ensured, lasts as lasts_of}
use denote.Triple.Entry.{Args, Vals}
use denote.Triple.Walked.{says}
use Rattle.walks.proofs.Extra as E
use Rattle.walks.proofs.Extra.{Extra, Values, Knowns}
use Rattle.walks.proofs.Lent.{ShrAt, Short, Long}
use Rattle.walks.proofs.Whole.{Cell}
use Rattle.codes.specs.contracts.TokenId as I
use Rattle.codes.proofs.TokenId.TheLaws as I'
use Rattle.reader.specs.declared.Tokens.{Tokens}
use Rattle.reader.specs.Answer.{kinds_of}
use Rattle.reader.proofs.Held.{Own, RowAt, reader, row_at, RowLent, lends-row, row_back}
use Rattle.reader.proofs.Forms.{Call, Below, cursor, passed, passed-clauses, Passed}

module _ (X : Extra) (Z : Call X) {M : Type 1} {𝓤 : Ura M} (𝓛 : Logic 𝓤) (C : Calls 𝓤 𝓛.H)
    (Λ : Loops 𝓤 𝓛.H) (#core : Callee) (fm : FmC 𝓤 𝓛.H 𝓛.laws C) (known : Triple 𝓤 (C #core) (Passed X Z 𝓤 𝓛))
    (κ : Lft) (q : Share) (h : Tokens) (b o : ℕ) (c-is : Is I.the_row h.cursor (I'.lowered h.cursor ∷ []))
    (below : Below h.cursor) (x : Values X) (x-is : Knowns X x) where
  open 𝓛 use {H}

  abbrev lfts : ℕ → Lfts 2
  lfts ν = (ν ∷ κ, (κ, tt))

  abbrev given : (ν : ℕ) → Args (passed X Z).signature (lfts ν)
  given ν = (record { ref_ptr = (b, row_at o); now = h.row }, (h.cursor, E.args 2 (lfts ν) X x))

  abbrev vals : (ν : ℕ) → Vals (passed X Z).signature (lfts ν)
  vals ν = (
    vptr b (row_at o) ∷ [],
    (I'.lowered h.cursor ∷ [], valss (E.rows 2 (lfts ν) X) (E.spells 2 (lfts ν) X) (E.args 2 (lfts ν) X x)),
  )

  abbrev to : ℕ → (Passed X Z 𝓤 𝓛).Ghost
  to ν = (
    (lfts ν, (Share.left q, (Share.right q, tt)), (meet_⊑_right (ν ∷ []) κ, tt), given ν, vals ν),
    tt,
  )

  goes :
      (ν : ℕ) →
      ent 𝓤 (⋆ 𝓛 (‵ (ShrAt (RowAt κ) h.row b (row_at o) (ν ∷ κ)) ∷ ‵ (Short κ q ν) ∷ ‵ (Long κ q) ∷ []))
      ((Passed X Z 𝓤 𝓛).pre (to ν))
  goes ν =
      qed 𝓛 (‵ (ShrAt (RowAt κ) h.row b (row_at o) (ν ∷ κ)) ∷ ‵ (Short κ q ν) ∷ ‵ (Long κ q) ∷ []) ∵ says ! below $
      use0 𝓛 (‵ (owns (E.rows 2 (lfts ν) X) (given ν).1.1 (vals ν).1.1)) (E.owned-all 𝓛 2 (lfts ν) X x x-is) $
      owned ! I.the_row (Is I.the_row) (cursor.makes 𝓛) h.cursor _ c-is $ fjoin ! $ move ! (1 ∷ 0 ∷ []) $ fjoin ! $
      nothing ! $ move ! (3 ∷ 0 ∷ []) $ join ! $ move ! (2 ∷ 0 ∷ []) $ join ! $ frame ! $ done !

  abbrev Said : (ν : ℕ) → Z.step.Denot → Type 0
  Said ν s = Z.Says (kinds_of h) h.cursor (E.out 2 (lfts ν) X (E.args 2 (lfts ν) X x)) s

  said : (ν : ℕ) (s : Z.step.Denot) →
      ent 𝓤 (ensured 𝓛 (passed X Z) (passed-clauses X Z 𝓤) (lfts ν) (given ν) tt s) (fact 𝓤 (Said ν s))
  said ν s = ex_e 𝓤 _ (λ ws. snd∗ 𝓤 (sem 𝓛 (lasts_of (passed X Z) (lfts ν) (given ν) ws)) (fact 𝓤 (Said ν s)))

  -- the reader at (b, o), whose row is lent, with the operands' reading of the row's address, of the cursor and of x
  pub calls-row :
      (Γ : List (Item 𝓤)) (F : Env 𝓤 H) (xs : List Opd) (d : Place) (rest : Code) (Q : After 𝓤 H) →
      ((n : ℕ) (κs : Lfts n) (i j : Item 𝓤) → Opds (Go {0}) 𝓛 (i ∷ j ∷ Γ) F xs (vptr b (row_at o) ∷ I'.lowered h.cursor
      ∷ flat (E.rows n κs X) (valss (E.rows n κs X) (E.spells n κs X) (E.args n κs X x)))) →
      ((u : Val) (s : Z.step.Denot) → Z.Says (kinds_of h) h.cursor x s →
      Sq 𝓛 (‵ (Z.step.own_val s (u ∷ [])) ∷ ‵ (Cell (reader κ) full_share h b o) ∷ ‵ (Own κ h) ∷ ‵ (flft κ q) ∷ Γ)
      (lands C Λ F d u rest Q)) →
      Sq 𝓛 (‵ (Cell (reader κ) full_share h b o) ∷ ‵ (Own κ h) ∷ ‵ (flft κ q) ∷ Γ)
      (runs C Λ F (seq (call #core xs d) rest) Q)
  calls-row Γ F xs d rest Q os k =
      use3 𝓛 (later (some (λ (ν : ℕ). RowLent 𝓛 κ q h b o ν))) (lends-row 𝓛 κ q h b o) $ await ! tt $ pick ! (λ ν.
      split ! $ move ! (1 ∷ []) $ split ! $ move ! (1 ∷ []) $ split ! $ move ! (3 ∷ 2 ∷ 0 ∷ []) $
      use3 𝓛 (raw ((Passed X Z 𝓤 𝓛).pre (to ν))) (goes ν) $
      -- [what it asks; what is kept; …]
      calls_at ! fm (Passed X Z 𝓤 𝓛) known (to ν) (os 2 (lfts ν) _ _) (λ u.
      use1 𝓛 (later (some (λ (s : Z.step.Denot). ((‵ (Short κ q ν) ⊛ ‵ (Long κ q) ⊛ ‵ ftrue)
      ⊛ ‵ (Z.step.own_val s (u ∷ []))) ⊛ raw (ensured 𝓛 (passed X Z) (passed-clauses X Z 𝓤) (lfts ν) (given ν) tt
      s)))) (id⊢ 𝓤 _) $ await ! tt $ pick ! (λ s. split ! $ move ! (1 ∷ []) $
      use1 𝓛 (raw (fact 𝓤 (Said ν s))) (said ν s) $ heard ! (Said ν s) (λ e.
      split ! $ split ! $ move ! (1 ∷ []) $ split ! $ move ! (1 ∷ []) $ drop ! $
      -- [the other half of the token; a half of it; the answer; what is kept; …]
      move ! (1 ∷ 0 ∷ 3 ∷ []) $
      use3 𝓛 (later (‵ (Cell (reader κ) full_share h b o) ⊛ ‵ (Own κ h) ⊛ ‵ (flft κ q))) (row_back 𝓛 κ q h b o ν) $
      await ! tt $ split ! $ move ! (1 ∷ []) $ split ! $
      -- [what the reader owns; the token; its cell; the answer; …]
      move ! (3 ∷ 2 ∷ 0 ∷ 1 ∷ []) $
      k u s (subst (λ (y : Values X). Z.Says (kinds_of h) h.cursor y s) (E.out-args 2 (lfts ν) X x) e)))))
