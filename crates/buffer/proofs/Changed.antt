-- What the walks of the functions that are lent the record share: the borrow is closed at another record, what is had at
-- the end gives the promise, and such a walk gives the contract.
use mathlib.Core.Path.{◌≡◌, refl}
use Prim.Native.Nat.{ℕ, suc}
use mathlib.Core.List.{List, [], ◌∷◌}
use lib.ListN.{length}
use seplogic.Ra.Ura.{Ura}
use base.Fraction.{full_share}
use mir.Syntax.{Ty, ty_int, ty_ref, w32, named, erased, mut, deref, field, Place, place, Fn}
use mir.Val.{Val, vptr}
use base.Logic.{SProp, ent}
use base.Stored.{Gv}
use base.Fml.{Lft, Share, GName, ftrue, flft, fobs, fauth, fbor, fobor}
use prog.Wp.{WpFn, Tables}
use types.Logic.{Logic}
use contract.Lifetimes.{Lfts}
use types.Kit.{Goal, Soaks, Step, step, Item, ‵, ◌⊛◌, ⋆, ◌$◌, ◌∵◌, !, qed, move, drop, use0, join, fjoin, fjoin3, feq_i}
use types.Kit.{suffices, frame, done}
use types.SemTy.{Body}
use denote.RattleType.{Denots, flat}
use denote.Laws.{Is, valss}
use denote.Memory.{mem, pointee}
use denote.Builtin.{u32}
use denote.Ref.{MutBor, mut_vals, mut_Tells}
use denote.Signature.{plain}
use denote.Slice.{MutSlice, slice_ty, mut_slice_vals, mut_slice_Tells}
use denote.Steps.{owned}
use denote.Triple.Statement.{Triple}
use denote.Triple.Entry.{Args, Vals, on_entry}
use denote.Triple.Walked.{says, needs, Stays, stay_ref, stay_none, gave_slice, has_of, walk_of, Goes-ref, Goes-none}
use denote.Triple.Walked.{Goes-gave_slice, ends_at}
use denote.Exit.{yes}
use Rattle.walks.proofs.Extra as E
use Rattle.walks.proofs.Extra.{Extra, Values, Knowns}
use Rattle.walks.proofs.Plain.{silent}
use Rattle.walks.proofs.Whole.{Cell, Own, closes-whole}
use Rattle.walks.proofs.Told.{by-walk}
use Rattle.codes.specs.declared.TokenId.{TokenId}
use Rattle.codes.specs.contracts.TokenId as I
use Rattle.buffer.specs.declared.ParseBuffer.{ParseBuffer}
use Rattle.buffer.specs.contracts.ParseBuffer as P
use Rattle.buffer.proofs.ParseBuffer.TheLaws as P'
use Rattle.buffer.proofs.Held.{buffer, B, cursor, column, Gone}
use Rattle.buffer.proofs.Forms.{Way, lent, lent-clauses, Lent}

-- the types of the locals that hold the reference and the words, as a parameter and as they are lent again
abbrev pub ref-type : Ty
ref-type = ty_ref (named 0) mut (pointee (P.the_row).written)

abbrev pub words-type : Ty
words-type = slice_ty (ty_ref (named 1) mut (ty_int w32))

abbrev pub pointer-type : Ty
pointer-type = ty_ref erased mut (ty_int w32)

abbrev pub again-type : Ty
again-type = slice_ty pointer-type

-- the count and the list of the record behind the first parameter
abbrev pub its-count : Place
its-count = place 1 (deref P'.mir ∷ field 0 ∷ [])

abbrev pub its-list : Place
its-list = place 1 (deref P'.mir ∷ field 1 ∷ [])

-- the n-th local behind the parameters X
abbrev pub at : Extra → ℕ → ℕ
at X n = suc (suc (suc (suc (E.beyond X n))))

-- the borrow is closed at the record p
module _ {M : Type 1} {𝓤 : Ura M} {𝓛 : Logic 𝓤} {K : Type 0} {Γ : List (Item 𝓤)}
    {G : Goal 𝓤 𝓛.H} where
  pub closes-at :
      K → Soaks G → {κ : Lft} {q : Share} (h p : ParseBuffer) → Is P.the_row p (B.val p ∷ []) →
      {u v : Gv} {γ : GName} {toks gone others : Item 𝓤} (b o : ℕ) →
      Step K 𝓛 (‵ (fobs γ ((P.the_row).coded.code p)) ∷ ‵ (fbor κ (Body (mem P.the_row) b o γ)) ∷ ‵ (flft κ q) ∷ toks ∷
      gone ∷ Γ) G
      (toks ∷ gone ∷ others ∷ ‵ (Cell buffer full_share p b o) ∷ ‵ (Own buffer h) ∷
      ‵ (fobor κ q (Body (mem P.the_row) b o γ)) ∷ ‵ (fobs γ u) ∷ ‵ (fauth γ v) ∷ Γ) G
  closes-at t z h p p-is b o = step (λ s.
      owned t P.the_row (Is P.the_row) (B.makes 𝓛) p _ p-is $ move t (4 ∷ 0 ∷ 6 ∷ 7 ∷ 8 ∷ []) $
      closes-whole t z buffer p b o $ move t (5 ∷ 6 ∷ []) $ drop t $ drop t $ s)

module _ (X : Extra) (V : Way X) where
  abbrev stayed : Stays (lent X V).signature.params (lent X V).kept
  stayed = (
    stay_ref (0 ∷ []) tt (plain (λ _. P.the_row)),
    (gave_slice (1 ∷ []) tt (plain (λ _. u32)), (stay_none (λ _. I.the_row) yes, E.stays 2 X)),
  )

  -- the record y is lent for κ, and the words for κ₁
  module _ {M : Type 1} {𝓤 : Ura M} (𝓛 : Logic 𝓤) (κ κ₁ : Lft) (q q₁ : Share)
      (y : MutBor ParseBuffer) (ws : MutBor (List ℕ)) (c : TokenId) (a : Denots (E.rows 2 (κ, (κ₁, tt)) X)) where
    open 𝓛 use {H}

    abbrev pub κs : Lfts 2
    κs = (κ, (κ₁, tt))

    abbrev pub x : Values X
    x = E.out 2 κs X a

    abbrev pub args : Args (lent X V).signature κs
    args = (y, (ws, (c, a)))

    abbrev pub vals : Vals (lent X V).signature κs
    vals = (
      vptr y.ref_ptr.0 y.ref_ptr.1 ∷ [],
      (column ws ∷ [], (cursor.val c ∷ [], valss (E.rows 2 κs X) (E.spells 2 κs X) a)),
    )

    abbrev bound : (walk_of 𝓛 (lent X V) stayed (lent-clauses X V 𝓤)).Ghost
    bound = ((κs, (q, (q₁, tt)), tt, args, vals), tt)

    abbrev pub Post : Val → SProp 𝓤
    Post = (walk_of 𝓛 (lent X V) stayed (lent-clauses X V 𝓤)).post bound

    -- the token of the words' lifetime
    abbrev pub toks : Item 𝓤
    toks = ‵ (flft κ₁ q₁) ⊛ ‵ ftrue

    -- what is had at the end, with the record p and the words ws'
    abbrev pub Ends : ParseBuffer → List ℕ → List (Item 𝓤)
    Ends p ws' =
        ‵ (fobs y.ghost_name ((P.the_row).coded.code p))
        ∷ ‵ (fbor κ (Body (mem P.the_row) y.ref_ptr.0 y.ref_ptr.1 y.ghost_name))
        ∷ ‵ (flft κ q) ∷ toks ∷ ‵ (Gone κ₁ ws ws') ∷ []

    -- what a walk of the function f shows
    abbrev pub Walked : (Fn → List Val → (Val → SProp 𝓤) → SProp 𝓤) → Fn → Type 1
    Walked wp f =
        ent 𝓤 (on_entry 𝓛 (lent X V).signature κs (q, (q₁, tt)) args vals)
        (wp f (vptr y.ref_ptr.0 y.ref_ptr.1 ∷ column ws ∷ cursor.val c ∷ flat (E.rows 2 κs X) vals.1.1.1) Post)

    pub exits :
        (r : V.answers.row.Denot) (p : ParseBuffer) (ws' : List ℕ) → V.Gives c y.now ws.now x r p ws' →
        length ws' ≡ length ws.now → Is V.answers.row r (V.answers.val r ∷ []) →
        Is I.the_row c (cursor.val c ∷ []) → ent 𝓤 (⋆ 𝓛 (Ends p ws')) (Post (V.answers.val r))
    exits r p ws' e m is c-is =
        qed 𝓛 (Ends p ws') ∵
        suffices ! _ (ends_at 𝓛 (lent X V) stayed (lent-clauses X V 𝓤) bound (V.answers.val r) r
        (p, (ws', (tt, E.lasts 2 κs X a))) (tt, (m, (tt, E.fits 2 κs X a)))) $ says ! e $
        move ! (2 ∷ 3 ∷ []) $ join ! $ frame ! $
        use0 𝓛 (‵ (has_of κs (E.slots 2 X) (E.kepts 2 X) (E.stays 2 X) a (E.lasts 2 κs X a) vals.1.1.1))
        (E.had-all 𝓛 2 κs X a) $
        owned ! I.the_row (Is I.the_row) (cursor.makes 𝓛) c _ c-is $ fjoin ! $
        -- [what is had of the plain parameters; obs; the borrow; the words' last list]
        move ! (3 ∷ 0 ∷ []) $ fjoin ! $ move ! (1 ∷ 2 ∷ []) $
        feq_i ! (List Val) (vptr y.ref_ptr.0 y.ref_ptr.1 ∷ []) (vptr y.ref_ptr.0 y.ref_ptr.1 ∷ []) refl $ fjoin3 ! $
        fjoin ! $ frame ! $ owned ! V.answers.row (Is V.answers.row) (V.answers.makes 𝓛) r _ is $ done !

  module _ {M : Type 1} {𝓤 : Ura M} (𝓛 : Logic 𝓤) where
    open 𝓛 use {H}

    pub meets : (𝓣 : Tables 𝓤 H) (f : Fn) →
        ((κ κ₁ : Lft) (q q₁ : Share) (y : MutBor ParseBuffer) (ws : MutBor (List ℕ)) (c : TokenId)
        (a : Denots (E.rows 2 (κ, (κ₁, tt)) X)) → Is (MutSlice (named 1) κ₁ u32) ws (column ws ∷ []) →
        Is I.the_row c (cursor.val c ∷ []) → Knowns X (E.out 2 (κ, (κ₁, tt)) X a) →
        V.Asks y.now ws.now (E.out 2 (κ, (κ₁, tt)) X a) →
        Walked 𝓛 κ κ₁ q q₁ y ws c a (WpFn 𝓤 H 𝓣.C 𝓣.Λ) f) →
        Triple 𝓤 (WpFn 𝓤 H 𝓣.C 𝓣.Λ f) (Lent X V 𝓤 𝓛)
    meets 𝓣 f walk = by-walk 𝓛 (lent X V) stayed (lent-clauses X V 𝓤) f 𝓣 (
      Goes-ref 𝓛 2 0 tt (plain (λ _. P.the_row)),
      (
        Goes-gave_slice 𝓛 2 1 tt (plain (λ _. u32)),
        (Goes-none 𝓛 2 (λ _. I.the_row) yes (λ κs. silent cursor yes), E.goes 2 𝓛 X),
      ),
    )
        (λ κs. (mut_vals, (mut_slice_vals, ((λ d. cursor.val d ∷ []), E.spells 2 κs X))))
        (λ κs. (
          mut_Tells (named 0) κs.0 P.the_row,
          (mut_slice_Tells (named 1) κs.1.0 u32, (cursor.tells, E.tellss 2 κs X)),
        ))
        (λ κs qs bounds a g are. needs 𝓤 _ _ (λ asks.
        walk κs.0 κs.1.0 qs.0 qs.1.0 a.0 a.1.0 a.1.1.0 a.1.1.1 are.1.0 are.1.1.0 (E.knowns 2 κs X a.1.1.1 are.1.1.1)
        asks))
