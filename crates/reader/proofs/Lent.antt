-- What the walks of the functions that are lent a reader share: the borrow is closed at another cursor, what is had at
-- the end gives the promise, and such a walk gives the contract.
use mathlib.Core.Path.{refl}
use Prim.Native.Nat.{ℕ, suc}
use mathlib.Core.List.{List, [], ◌∷◌}
use seplogic.Ra.Ura.{Ura}
use base.Fraction.{full_share}
use mir.Syntax.{Ty, ty_ref, named, erased, imm, mut, deref, field, Place, place, Fn}
use mir.Val.{Val, vptr}
use base.Logic.{SProp, ent}
use base.Stored.{Gv}
use base.Fml.{GName, Lft, Share, ftrue, flft, fobs, fauth, fbor, fobor}
use prog.Wp.{WpFn, Tables}
use types.Logic.{Logic}
use contract.Lifetimes.{Lfts, AllOutlive}
use types.Kit.{Goal, Soaks, Step, step, Item, ‵, ◌⊛◌, ⋆, ◌$◌, ◌∵◌, !, qed, move, use0, join, fjoin, fjoin3, feq_i}
use types.Kit.{suffices, frame, done}
use types.SemTy.{Body}
use denote.RattleType.{Denots, flat}
use denote.Laws.{Is, valss}
use denote.Memory.{mem, pointee}
use denote.Ref.{mut_vals, mut_Tells}
use denote.Steps.{owned}
use denote.Triple.Statement.{Triple}
use denote.Triple.Entry.{Args, Vals, on_entry}
use denote.Triple.Walked.{says, needs, Stays, stay_ref, has_of, walk_of, Goes-ref, ends_at}
use Rattle.walks.proofs.Extra as E
use Rattle.walks.proofs.Extra.{Extra, Values, Knowns}
use Rattle.walks.proofs.Whole.{Cell}
use Rattle.walks.proofs.Told.{by-walk}
use Rattle.codes.specs.declared.TokenId.{TokenId}
use Rattle.codes.specs.contracts.TokenId as I
use Rattle.codes.proofs.TokenId.TheLaws as I'
use Rattle.tokens.specs.contracts.Row as R
use Rattle.reader.specs.declared.Tokens.{Tokens}
use Rattle.reader.specs.Answer.{moved}
use Rattle.reader.proofs.Tokens.TheLaws as T'
use Rattle.reader.proofs.Held.{B, reader, Own, closes-reader}
use Rattle.reader.proofs.Forms.{Way, Below, behind, lent, lent-clauses, Lent}

-- the types of the locals that hold the reference to the reader and the one to its row
abbrev pub ref-type : Ty
ref-type = ty_ref (named 0) mut (pointee (B []).written)

abbrev pub row-type : Ty
row-type = ty_ref erased imm (pointee (R.the_row (record { mir = erased; lft = [] })).written)

-- the row and the cursor of the reader behind the first parameter
abbrev pub its-row : Place
its-row = place 1 (deref (T'.mir erased) ∷ field 0 ∷ [])

abbrev pub its-cursor : Place
its-cursor = place 1 (deref (T'.mir erased) ∷ field 1 ∷ [])

-- the n-th local behind the parameters X
abbrev pub at : Extra → ℕ → ℕ
at X n = suc (suc (E.beyond X n))

-- the borrow is closed, and the token that the call gave back is put beside
module _ {M : Type 1} {𝓤 : Ura M} {𝓛 : Logic 𝓤} {K : Type 0} {Γ : List (Item 𝓤)}
    {G : Goal 𝓤 𝓛.H} where
  pub closes-moved :
      K → Soaks G → {κ : Lft} (κ' : Lft) {q q' : Share} (h : Tokens) (c : TokenId) →
      Is I.the_row c (I'.lowered c ∷ []) → {u v : Gv} {γ : GName} (b o : ℕ) →
      Step K 𝓛 (‵ (fobs γ ((B κ').coded.code (moved h c))) ∷ ‵ (fbor κ (Body (mem (B κ')) b o γ)) ∷ ‵ (flft κ q) ∷
      (‵ (flft κ' q') ⊛ ‵ ftrue) ∷ Γ) G
      (‵ (Cell (reader κ') full_share (moved h c) b o) ∷ ‵ (Own κ' h) ∷ ‵ (flft κ' q') ∷ ‵ ftrue ∷
      ‵ (fobor κ q (Body (mem (B κ')) b o γ)) ∷ ‵ (fobs γ u) ∷ ‵ (fauth γ v) ∷ Γ) G
  closes-moved t z κ' h c is b o = step (λ s.
      move t (0 ∷ 1 ∷ 4 ∷ 5 ∷ 6 ∷ []) $ closes-reader t z κ' h c is b o $
      move t (3 ∷ 4 ∷ []) $ join t $ move t (1 ∷ 2 ∷ 3 ∷ 0 ∷ []) $ s)

module _ (X : Extra) (V : Way X) where
  abbrev stayed : Stays (lent X V).signature.params (lent X V).kept
  stayed = (stay_ref (0 ∷ []) tt behind, E.stays 2 X)

  -- the reader h is lent at (b, o) for κ; it holds references at κ'
  module _ {M : Type 1} {𝓤 : Ura M} (𝓛 : Logic 𝓤) (κ κ' : Lft) (q q' : Share) (b o : ℕ) (γ : GName) (h : Tokens)
      (bounds : AllOutlive 2 (lent X V).signature.outlives (κ, (κ', tt))) (a : Denots (E.rows 2 (κ, (κ', tt)) X)) where
    open 𝓛 use {H}

    abbrev pub κs : Lfts 2
    κs = (κ, (κ', tt))

    -- the token of κ', which a call takes and gives back
    abbrev pub tok : Item 𝓤
    tok = ‵ (flft κ' q') ⊛ ‵ ftrue

    -- what is had at the end, with the reader h'
    abbrev pub Ends : Tokens → List (Item 𝓤)
    Ends h' =
        ‵ (fobs γ ((B κ').coded.code h')) ∷ ‵ (fbor κ (Body (mem (B κ')) b o γ)) ∷ ‵ (flft κ q) ∷ tok ∷ []

    abbrev pub x : Values X
    x = E.out 2 κs X a

    abbrev pub args : Args (lent X V).signature κs
    args = (record { ref_ptr = (b, o); ghost_name = γ; now = h }, a)

    abbrev pub vals : Vals (lent X V).signature κs
    vals = (vptr b o ∷ [], valss (E.rows 2 κs X) (E.spells 2 κs X) a)

    abbrev bound : (walk_of 𝓛 (lent X V) stayed (lent-clauses X V 𝓤)).Ghost
    bound = ((κs, (q, (q', tt)), bounds, args, vals), tt)

    abbrev pub Post : Val → SProp 𝓤
    Post = (walk_of 𝓛 (lent X V) stayed (lent-clauses X V 𝓤)).post bound

    -- what a walk of the function f shows
    abbrev pub Walked : (Fn → List Val → (Val → SProp 𝓤) → SProp 𝓤) → Fn → Type 1
    Walked wp f =
        ent 𝓤 (on_entry 𝓛 (lent X V).signature κs (q, (q', tt)) args vals)
        (wp f (vptr b o ∷ flat (E.rows 2 κs X) vals.1) Post)

    pub exits :
        (r : V.answer.row.Denot) (h' : Tokens) → V.Gives h x r h' →
        Is V.answer.row r (V.answer.val r ∷ []) → ent 𝓤 (⋆ 𝓛 (Ends h')) (Post (V.answer.val r))
    exits r h' e is =
        qed 𝓛 (Ends h') ∵
        suffices ! _ (ends_at 𝓛 (lent X V) stayed (lent-clauses X V 𝓤) bound (V.answer.val r) r
        (h', E.lasts 2 κs X a) (tt, E.fits 2 κs X a)) $ says ! e $
        move ! (2 ∷ 3 ∷ []) $ join ! $ frame ! $ feq_i ! (List Val) (vptr b o ∷ []) (vptr b o ∷ []) refl $ fjoin3 ! $
        use0 𝓛 (‵ (has_of κs (E.slots 2 X) (E.kepts 2 X) (E.stays 2 X) a (E.lasts 2 κs X a)
        vals.1)) (E.had-all 𝓛 2 κs X a) $ move ! (1 ∷ 0 ∷ []) $ fjoin ! $ frame ! $
        owned ! V.answer.row (Is V.answer.row) (V.answer.makes 𝓛) r _ is $ done !

  module _ {M : Type 1} {𝓤 : Ura M} (𝓛 : Logic 𝓤) where
    open 𝓛 use {H}

    pub meets : (𝓣 : Tables 𝓤 H) (f : Fn) →
        ((κ κ' : Lft) (q q' : Share) (b o : ℕ) (γ : GName) (h : Tokens) → Below h.cursor →
        (bounds : AllOutlive 2 (lent X V).signature.outlives (κ, (κ', tt)))
        (a : Denots (E.rows 2 (κ, (κ', tt)) X)) → Knowns X (E.out 2 (κ, (κ', tt)) X a) →
        Walked 𝓛 κ κ' q q' b o γ h bounds a (WpFn 𝓤 H 𝓣.C 𝓣.Λ) f) →
        Triple 𝓤 (WpFn 𝓤 H 𝓣.C 𝓣.Λ f) (Lent X V 𝓤 𝓛)
    meets 𝓣 f walk = by-walk 𝓛 (lent X V) stayed (lent-clauses X V 𝓤) f 𝓣
        (Goes-ref 𝓛 2 0 tt behind, E.goes 2 𝓛 X) (λ κs. (mut_vals, E.spells 2 κs X))
        (λ κs. (mut_Tells (named 0) κs.0 (B κs.1.0), E.tellss 2 κs X))
        (λ κs qs bounds a _ are. needs 𝓤 _ _ (λ below.
        walk κs.0 κs.1.0 qs.0 qs.1.0 a.0.ref_ptr.0 a.0.ref_ptr.1 a.0.ghost_name a.0.now below
        bounds a.1 (E.knowns 2 κs X a.1 are.1)))
