-- The words are given to a function with the cursor and the count, and are then what its contract says: the step for
-- each such call. All that the proof knows of the function called is that it meets its contract.
use mathlib.Core.Path.{◌≡◌, sym, subst}
use Prim.Native.Nat.{ℕ}
use mathlib.Core.List.{List, [], ◌∷◌}
use lib.ListN.{length}
use seplogic.Ra.Ura.{Ura}
use mir.Syntax.{named, Opd, Place, Body as Code, seq, call}
use mir.Val.{Val}
use base.Logic.{ent, id⊢}
use base.Fml.{Lft, Share, ftrue, flft}
use prog.Routine.{Callee}
use prog.Wp.{Env, Calls, Loops}
use types.Logic.{Logic}
use contract.Lifetimes.{Lfts}
use contract.Monad.{fact}
use types.Kit.{Item, Post as After, Go, Sq, runs, lands, ‵, raw, some, later, ◌⊛◌, ⋆, ◌$◌, ◌∵◌, !, qed, move, drop}
use types.Kit.{use0, use1, use2, split, pick, fjoin, frame, await, done}
use types.Run.{Opds}
use sound.WpLaws.{FmC}
use denote.RattleType.{owns, flat}
use denote.Laws.{Is, valss}
use denote.Builtin.{u32}
use denote.Ref.{MutBor}
use denote.Slice.{MutSlice}
use denote.Steps.{owned, heard}
use denote.Triple.Statement.{Triple}
use denote.Triple.Call.{calls_at}
use denote.Triple.Clauses.{ensured, lasts, Lasts}
use denote.Triple.Entry.{Args, Vals}
use denote.Triple.Walked.{says}
use Rattle.walks.proofs.Extra as E
use Rattle.walks.proofs.Extra.{Extra, Values, Knowns}
use Rattle.codes.specs.declared.Read.{Read}
use Rattle.codes.specs.declared.TokenId.{TokenId}
use Rattle.codes.specs.Answer.{ParseResult}
use Rattle.codes.specs.contracts.TokenId as I
use Rattle.buffer.proofs.Held.{cursor, word, column, Gone, answer, lasting}
use Rattle.buffer.proofs.Forms.{Call, called, called-clauses, Called}

module _ (X : Extra) (Z : Call X) {M : Type 1} {𝓤 : Ura M} (𝓛 : Logic 𝓤) (C : Calls 𝓤 𝓛.H) (Λ : Loops 𝓤 𝓛.H)
    (#core : Callee) (fm : FmC 𝓤 𝓛.H 𝓛.laws C) (known : Triple 𝓤 (C #core) (Called X Z 𝓤 𝓛)) (κ : Lft) (q : Share)
    (ws : MutBor (List ℕ)) (c : TokenId) (c-is : Is I.the_row c (cursor.val c ∷ [])) (n : ℕ)
    (n-is : Is word.row n (word.val n ∷ [])) (x : Values X) (x-is : Knowns X x) (asks : Z.Asks n ws.now x) where
  open 𝓛 use {H}

  abbrev κs : Lfts 1
  κs = (κ, tt)

  -- the token of the words' lifetime, which the call takes and gives back, and what the words own
  abbrev pub toks : Item 𝓤
  toks = ‵ (flft κ q) ⊛ ‵ ftrue

  abbrev pub Column : Item 𝓤
  Column = ‵ ((MutSlice (named 0) κ u32).own_val ws (column ws ∷ []))

  abbrev given : Args (called X Z).signature κs
  given = (ws, (c, (n, E.args 1 κs X x)))

  abbrev vals : Vals (called X Z).signature κs
  vals = (
    column ws ∷ [],
    (
      cursor.val c ∷ [],
      (word.val n ∷ [], valss (E.rows 1 κs X) (E.spells 1 κs X) (E.args 1 κs X x)),
    ),
  )

  abbrev to : (Called X Z 𝓤 𝓛).Ghost
  to = ((κs, (q, tt), tt, given, vals), tt)

  goes : ent 𝓤 (⋆ 𝓛 (Column ∷ toks ∷ [])) ((Called X Z 𝓤 𝓛).pre to)
  goes =
      qed 𝓛 (Column ∷ toks ∷ []) ∵
      says ! (subst (λ (z : Values X). Z.Asks n ws.now z) (sym (E.out-args 1 κs X x)) asks) $
      use0 𝓛 (‵ (owns (E.rows 1 κs X) given.1.1.1 vals.1.1.1)) (E.owned-all 𝓛 1 κs X x x-is) $
      owned ! word.row (Is word.row) (word.makes 𝓛) n _ n-is $ fjoin ! $
      owned ! I.the_row (Is I.the_row) (cursor.makes 𝓛) c _ c-is $ fjoin ! $
      move ! (1 ∷ 0 ∷ []) $ fjoin ! $ move ! (1 ∷ 0 ∷ []) $ frame ! $ done !

  abbrev Last : Type 0
  Last = Lasts (called X Z) κs given

  abbrev Said : ParseResult (Read Z.reads.row.Denot) → Last → Type 0
  Said r es = Z.Says c n ws.now (E.out 1 κs X (E.args 1 κs X x)) r es.0

  pub calls-words :
      (Γ : List (Item 𝓤)) (F : Env 𝓤 H) (xs : List Opd) (d : Place) (rest : Code) (Q : After 𝓤 H) →
      ((i : Item 𝓤) → Opds (Go {0}) 𝓛 (i ∷ Γ) F xs (column ws ∷ cursor.val c ∷ word.val n
      ∷ flat (E.rows 1 κs X) (valss (E.rows 1 κs X) (E.spells 1 κs X) (E.args 1 κs X x)))) →
      ((u : Val) (r : ParseResult (Read Z.reads.row.Denot)) (ws' : List ℕ) → Z.Says c n ws.now x r ws' →
      length ws' ≡ length ws.now →
      Sq 𝓛 (‵ ((answer Z.reads).row.own_val r (u ∷ [])) ∷ toks ∷ ‵ (Gone κ ws ws') ∷ Γ) (lands C Λ F d u rest Q)) →
      Sq 𝓛 (Column ∷ toks ∷ Γ) (runs C Λ F (seq (call #core xs d) rest) Q)
  calls-words Γ F xs d rest Q os k =
      use2 𝓛 (raw ((Called X Z 𝓤 𝓛).pre to)) goes $
      calls_at ! fm (Called X Z 𝓤 𝓛) known to (os _) (λ u.
      use1 𝓛 (later (some (λ (r : ParseResult (Read Z.reads.row.Denot)).
      (toks ⊛ ‵ ((answer Z.reads).row.own_val r (u ∷ [])))
      ⊛ raw (ensured 𝓛 (called X Z) (called-clauses X Z 𝓤) κs given tt r)))) (id⊢ 𝓤 _) $
      await ! tt $ pick ! (λ r. split ! $ move ! (1 ∷ []) $
      use1 𝓛 (some (λ (es : Last). ‵ (lasts (called X Z) κs given es) ⊛ raw (fact 𝓤 (Said r es))))
      (id⊢ 𝓤 _) $ pick ! (λ es. split ! $ move ! (1 ∷ []) $ heard ! (Said r es) (λ e.
      -- [the words' last list, and what is had of the other parameters; the token and the answer; …]
      lasting ! (λ m. move ! (1 ∷ []) $ drop ! $ move ! (1 ∷ []) $ split ! $ move ! (1 ∷ 0 ∷ []) $
      k u r es.0 (subst (λ (z : Values X). Z.Says c n ws.now z r es.0) (E.out-args 1 κs X x) e) m)))))
