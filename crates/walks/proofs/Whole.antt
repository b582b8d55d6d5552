-- A value of a declared type behind a reference, whole: its cell at the type that the body writes, and what it
-- owns.
use mathlib.Core.Path.{◌≡◌, sym, subst}
use Prim.Native.Nat.{ℕ}
use mathlib.Core.List.{List, [], ◌∷◌}
use seplogic.Ra.Ura.{Ura}
use base.Fraction.{full_share}
use mir.Syntax.{Ty}
use mir.Raw.{raw as raw_ty}
use mir.Val.{Val}
use base.Logic.{ent, sep}
use base.Stored.{Gv}
use base.Fml.{Lft, GName, Share, Fml, fsep, fat, flft, fobs, fauth, fbor, fobor}
use types.Logic.{Logic, sem}
use types.Kit.{Goal, Soaks, Seq, Step, step, Item, ‵, ◌$◌, ◌∵◌, !, qed, move, use1, fsplit, fjoin, fpick}
use types.Kit.{fpack}
use types.Kit.{done}
use types.SemTy.{Body}
use denote.RattleType.{RattleType}
use denote.Laws.{Is, Tells, shows}
use denote.Memory.{mem, cell_at, cell_raw, raw_all, part_at, part_of}
use denote.Steps.{opens, closes, peeks}
use denote.Struct.Steps.{spelt}

-- what a walk uses of the type: its row, its MIR type where the body names it, and the machine value of each value
pub record Whole : Type 2 where
  pub row : RattleType
  pub mir : Ty
  pub one : raw_all row.mir ≡ raw_ty mir ∷ []
  pub val : row.Denot → Val
  pub tells : Tells row (Is row) (λ x. val x ∷ [])

module _ (T : Whole) where
  -- the cell of h, and what h owns
  abbrev pub Cell : Share → T.row.Denot → ℕ → ℕ → Fml
  Cell q h b o = fat q T.mir b o (T.val h)

  abbrev pub Own : T.row.Denot → Fml
  Own h = T.row.own_val h (T.val h ∷ [])

  abbrev pub Known : T.row.Denot → Type 0
  Known h = Is T.row h (T.val h ∷ [])

  module _ {M : Type 1} {𝓤 : Ura M} (𝓛 : Logic 𝓤) (q : Share) (h : T.row.Denot)
      (b o : ℕ) where
    -- the cell at the type that a borrow holds
    pub cell_in : ent 𝓤 (sem 𝓛 (Cell q h b o)) (sem 𝓛 (cell_at q T.row.mir (T.val h ∷ []) b o))
    cell_in =
        subst (λ (ρs : List Ty). ent 𝓤 (sem 𝓛 (Cell q h b o)) (sem 𝓛 (cell_raw q ρs (T.val h ∷ []) b o)))
        (sym T.one) (𝓛.laws.at_raw q T.mir b o (T.val h))

    pub cell_out : ent 𝓤 (sem 𝓛 (cell_at q T.row.mir (T.val h ∷ []) b o)) (sem 𝓛 (Cell q h b o))
    cell_out =
        subst (λ (ρs : List Ty). ent 𝓤 (sem 𝓛 (cell_raw q ρs (T.val h ∷ []) b o)) (sem 𝓛 (Cell q h b o)))
        (sym T.one) (𝓛.laws.raw_at q T.mir b o (T.val h))

  module _ {M : Type 1} {𝓤 : Ura M} (𝓛 : Logic 𝓤) (h : T.row.Denot) (b o : ℕ) where
    -- the two are what lies in memory
    pub lies_in :
        ent 𝓤 (sep 𝓤 (sem 𝓛 (Cell full_share h b o)) (sem 𝓛 (Own h))) (sem 𝓛 (part_at T.row full_share
        h b
        o))
    unfolding part_of
    lies_in =
        qed 𝓛 (‵ (Cell full_share h b o) ∷ ‵ (Own h) ∷ []) ∵
        use1 𝓛 (‵ (cell_at full_share T.row.mir (T.val h ∷ []) b o)) (cell_in 𝓛 full_share h b o) $
        fjoin ! $ fpack ! (List Val) (λ us. fsep (cell_at full_share T.row.mir us b o) (T.row.own_val h us))
        (T.val h ∷ []) $ done !

    pub lies_out :
        ent 𝓤 (sem 𝓛 (part_at T.row full_share h b o)) (sep 𝓤 (sem 𝓛 (Cell full_share h b o))
        (sem 𝓛 (Own h)))
    unfolding part_of
    lies_out =
        qed 𝓛 (‵ (part_at T.row full_share h b o) ∷ []) ∵ fpick ! (λ vs. fsplit ! $
        spelt ! T.row (Is T.row) (shows 𝓛 T.row) (λ x. T.val x ∷ []) T.tells full_share h vs b o $
        use1 𝓛 (‵ (Cell full_share h b o)) (cell_out 𝓛 full_share h b o) $ done !)

-- a borrow of it is opened, and closed at another value
module _ {M : Type 1} {𝓤 : Ura M} {𝓛 : Logic 𝓤} {K : Type 0} {Γ : List (Item 𝓤)}
    {G : Goal 𝓤 𝓛.H} where
  pub opens-whole :
      K → Soaks G → (T : Whole) {κ : Lft} {q : Share} (h : T.row.Denot) {γ : GName} (b o : ℕ) →
      (Known T h →
      Seq K 𝓛 (‵ (Cell T full_share h b o) ∷ ‵ (Own T h) ∷ ‵ (fobor κ q (Body (mem T.row) b o γ))
      ∷ ‵ (fobs γ (T.row.coded.code h)) ∷ ‵ (fauth γ (T.row.coded.code h)) ∷ Γ) G) →
      Seq K 𝓛 (‵ (fobs γ (T.row.coded.code h)) ∷ ‵ (fbor κ (Body (mem T.row) b o γ)) ∷ ‵ (flft κ q) ∷ Γ) G
  opens-whole t z T h b o k =
      opens t z T.row {h = h} b o (λ vs.
      spelt t T.row (Is T.row) (shows 𝓛 T.row) (λ x. T.val x ∷ []) T.tells full_share h vs b o $
      use1 𝓛 (‵ (Cell T full_share h b o)) (cell_out T 𝓛 full_share h b o) $
      move t (1 ∷ []) $ peeks t T.row (Is T.row) (shows 𝓛 T.row) h (T.val h ∷ []) (λ was. move t
      (1 ∷ 0 ∷ []) $ k was))

  pub closes-whole :
      K → Soaks G → (T : Whole) {κ : Lft} {q : Share} (h : T.row.Denot) {u v : Gv} {γ : GName} (b o : ℕ) →
      Step K 𝓛 (‵ (fobs γ (T.row.coded.code h)) ∷ ‵ (fbor κ (Body (mem T.row) b o γ)) ∷ ‵ (flft κ q) ∷ Γ) G
      (‵ (Cell T full_share h b o) ∷ ‵ (Own T h) ∷ ‵ (fobor κ q (Body (mem T.row) b o γ)) ∷ ‵ (fobs γ u) ∷
      ‵ (fauth γ v) ∷ Γ) G
  closes-whole t z T h b o = step (λ s.
      use1 𝓛 (‵ (cell_at full_share T.row.mir (T.val h ∷ []) b o)) (cell_in T 𝓛 full_share h b o) $
      closes t z T.row h (T.val h ∷ []) b o $ s)
