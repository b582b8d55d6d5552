-- What the walks of the functions whose parameters are the row and the cursor share: a reader is made in a local, what
-- is had at the end gives the promise, and such a walk gives the contract.
use mathlib.Core.Path.{◌≡◌, refl, ap}
use Prim.Native.Nat.{ℕ}
use mathlib.Core.List.{List, [], ◌∷◌}
use seplogic.Ra.Ura.{Ura}
use base.Fraction.{full_share}
use mir.Syntax.{Ty, named, erased, Opd, place, copy, rv_opd, Body as Code, seq, assign, call, Fn}
use mir.Val.{Val}
use base.Logic.{SProp, ent, sep, id⊢}
use base.Fml.{Lft, Share, Fml, ftrue, froom, fat, flft}
use prog.Memory.{Memory}
use prog.Routine.{Callee, Routine}
use prog.Wp.{Env, Calls, Loops, WpFn, Tables, spot_of}
use types.Logic.{Logic, sem}
use contract.Monad.{Fun, fact}
use types.Kit.{Item, Post as After, Go, Sq, runs, ‵, raw, some, later, ◌⊛◌, ⋆, ◌$◌, ◌∵◌, !, qed, by, move, drop}
use types.Kit.{use0, use1, use2, split, pick, rewrite, fsplit, fjoin, suffices, frame, await, done}
use types.Run.{Opds, look, init, stop, load, of_opd, assigns, land}
use sound.WpLaws.{FmC}
use denote.RattleType.{RattleType, Denots, owns, flat}
use denote.Laws.{Is, valss, shows}
use denote.Exit.{yes}
use denote.Signature.{named_lft}
use contract.Lifetimes.{Lfts}
use denote.Steps.{only, peeks, heard, nothing}
use denote.Struct.Laws as LL
use denote.Triple.Statement.{Triple}
use denote.Triple.Call.{calls_at}
use denote.Triple.Entry.{Args, Vals, on_entry}
use denote.Triple.Walked.{says, Stays, stay_none, has_of, walk_of, Goes-none, ends_at}
use Rattle.walks.proofs.Extra as E
use Rattle.walks.proofs.Extra.{Extra, Knowns}
use Rattle.walks.proofs.Operands.{within}
use Rattle.walks.proofs.Told.{by-walk}
use Rattle.walks.proofs.Whole.{Cell}
use Rattle.codes.specs.contracts.TokenId as I
use Rattle.codes.proofs.TokenId.TheLaws as I'
use Rattle.tokens.specs.contracts.Row as R
use Rattle.tokens.proofs.Row.TheLaws as R'
use Rattle.reader.specs.declared.Tokens.{Tokens}
use Rattle.reader.specs.Answer.{kinds_of}
use Rattle.reader.specs.contracts.Tokens as T
use Rattle.reader.proofs.Tokens.TheLaws as T'
use Rattle.reader.proofs.Held.{B, D, L, RowAt, row, reader, Own, Params}
use Rattle.reader.proofs.Made.{New, αᵉ, Made, to-new, goes-new, Gave, made-said}
use Rattle.reader.proofs.Forms.{Promise, Asked, asked, plainly, plainly-clauses, Plainly}

-- a reader that is made of a reader's row and cursor is that reader
pub same : (h r : Tokens) → Made h r → r ≡ h
same h r e = λ i. record { row = e.0 i; cursor = e.1 i }

-- the types of the locals that hold a reader, and the row
abbrev pub reader-type : Ty
reader-type = T'.mir erased

abbrev pub row-type : Ty
row-type = R'.mir (named 0)

-- the row as a parameter
abbrev its : Lfts 1 → RattleType
its κs = R.the_row (named_lft 1 0 tt κs)

-- the row and the cursor are of their types
abbrev pub Typed : Lft → Tokens → Type 0
Typed κ h = Is (RowAt κ) h.row (row h ∷ []) × Is I.the_row h.cursor (I'.lowered h.cursor ∷ [])

module _ (X : Extra) (P : Promise X) where
  abbrev stayed : Stays (plainly X P).signature.params (plainly X P).kept
  stayed = (stay_none its yes, (stay_none (λ _. I.the_row) yes, E.stays 1 X))

  -- the row and the cursor are those of the reader h
  module _ {M : Type 1} {𝓤 : Ura M} (𝓛 : Logic 𝓤) (κ : Lft) (q : Share) (h : Tokens)
      (a : Denots (E.rows 1 (κ, tt) X)) where
    -- the lifetime's token, and what the parameters own
    open 𝓛 use {H}

    abbrev pub tok : Item 𝓤
    tok = ‵ (flft κ q) ⊛ ‵ ftrue

    abbrev args : Args (plainly X P).signature (κ, tt)
    args = (h.row, (h.cursor, a))

    abbrev vals : Vals (plainly X P).signature (κ, tt)
    vals = (row h ∷ [], (I'.lowered h.cursor ∷ [], valss (E.rows 1 (κ, tt) X) (E.spells 1 (κ, tt) X) a))

    abbrev bound : (walk_of 𝓛 (plainly X P) stayed (plainly-clauses X P 𝓤)).Ghost
    bound = (((κ, tt), (q, tt), tt, args, vals), tt)

    abbrev Post : Val → SProp 𝓤
    Post = (walk_of 𝓛 (plainly X P) stayed (plainly-clauses X P 𝓤)).post bound

    abbrev pub All : Fml
    All = owns (RowAt κ ∷ I.the_row ∷ E.rows 1 (κ, tt) X) args vals

    -- what a walk of the function f shows
    abbrev pub Walked : (Fn → List Val → (Val → SProp 𝓤) → SProp 𝓤) → Fn → Type 1
    Walked wp f =
        ent 𝓤 (on_entry 𝓛 (plainly X P).signature (κ, tt) (q, tt) args vals)
        (wp f (row h ∷ I'.lowered h.cursor ∷ flat (E.rows 1 (κ, tt) X) vals.1.1) Post)

    module _ where
      -- the promise, of what is had at the end
      pub exits :
          (r : P.answer.Denot) (u : Val) → P.Says (kinds_of h) h.cursor (E.out 1 (κ, tt) X a) r →
          ent 𝓤 (⋆ 𝓛 (tok ∷ ‵ (P.answer.own_val r (u ∷ [])) ∷ ‵ (Params κ h) ∷ [])) (Post u)
      exits r u e =
          qed 𝓛 (tok ∷ ‵ (P.answer.own_val r (u ∷ [])) ∷ ‵ (Params κ h) ∷ []) ∵
          suffices ! _ (ends_at 𝓛 (plainly X P) stayed (plainly-clauses X P 𝓤) bound u r
          (tt, (tt, E.lasts 1 (κ, tt) X a)) (tt, (tt, E.fits 1 (κ, tt) X a))) $
          says ! e $ frame ! $ move ! (1 ∷ []) $ fsplit ! $ move ! (1 ∷ []) $ fsplit ! $ move ! (1 ∷ []) $ drop ! $
          use0 𝓛 (‵ (has_of (κ, tt) (E.slots 1 X) (E.kepts 1 X) (E.stays 1 X) a (E.lasts 1 (κ, tt) X a)
          vals.1.1)) (E.had-all 𝓛 1 (κ, tt) X a) $ move ! (1 ∷ 0 ∷ []) $ fjoin ! $ move ! (1 ∷ 0 ∷ []) $
          fjoin ! $ frame ! $ done !

      module _ (mem : Memory → SProp 𝓤) (run : Routine → Fun 𝓤) (C : Calls 𝓤 H) (Λ : Loops 𝓤 H) (#new : Callee)
          (fm : FmC 𝓤 H 𝓛.laws C) (known : Triple 𝓤 (C #new) (New 𝓛 mem run)) where
        -- what `new` asks, of what the parameters own
        from_all :
            ent 𝓤 (⋆ 𝓛 (tok ∷ ‵ All ∷ [])) (sep 𝓤 ((New 𝓛 mem run).pre (to-new 𝓛 mem run κ q h))
            (sem 𝓛 (Params κ h)))
        from_all =
            qed 𝓛 (tok ∷ ‵ All ∷ []) ∵
            move ! (1 ∷ []) $ fsplit ! $ move ! (1 ∷ []) $ fsplit ! $ move ! (1 ∷ []) $ drop ! $
            nothing ! $ move ! (1 ∷ 0 ∷ []) $ fjoin ! $ move ! (1 ∷ 0 ∷ []) $ fjoin ! $
            move ! (1 ∷ 0 ∷ []) $ by ! (goes-new 𝓛 mem run κ q h)

        -- `new` is called with the row and the cursor, and what it gives is stored in the local t by way of the local n
        pub makes :
            (Γ : List (Item 𝓤)) (F : Env 𝓤 H) (t n b c : ℕ) (xs : List Opd) (rest : Code) (Q : After 𝓤 H) →
            spot_of 𝓤 H F t ≡ (reader-type, b, 0) → spot_of 𝓤 H F n ≡ (reader-type, c, 0) →
            ((i₀ i₁ i₂ i₃ : Item 𝓤) → Opds (Go {0}) 𝓛 (i₀ ∷ i₁ ∷ i₂ ∷ i₃ ∷ Γ) F xs (row h ∷ I'.lowered h.cursor
            ∷ [])) →
            ((u : Val) (r : Tokens) → Made h r →
            Sq 𝓛 (‵ (Cell (reader κ) full_share r b 0) ∷ ‵ (Own κ r) ∷ ‵ (flft κ q) ∷ ‵ (fat full_share reader-type c 0 u)
            ∷ ‵ (Params κ h) ∷ Γ) (runs C Λ F rest Q)) →
            Sq 𝓛 (tok ∷ ‵ All ∷ ‵ (froom reader-type c 0) ∷ ‵ (froom reader-type b 0) ∷ Γ)
            (runs C Λ F (seq (call #new xs (place n [])) (seq (assign (place t []) (rv_opd (copy (place n [])))) rest))
            Q)
        makes Γ F t n b c xs rest Q at-t at_n os k =
            use2 𝓛 (raw ((New 𝓛 mem run).pre (to-new 𝓛 mem run κ q h)) ⊛ ‵ (Params κ h)) from_all $ split ! $
            move ! (0 ∷ 2 ∷ 3 ∷ []) $
            calls_at ! fm (New 𝓛 mem run) known (to-new 𝓛 mem run κ q h) (os _ _ _ _) (λ u.
            use1 𝓛 (later (some (Gave 𝓛 mem run κ q h u))) (id⊢ 𝓤 _) $ await ! tt $ pick ! (λ r. split ! $
            move ! (1 ∷ []) $ use1 𝓛 (raw (fact 𝓤 (Made h r))) (made-said 𝓛 mem run κ q h r) $
            heard ! (Made h r) (λ e. split ! $ split ! $ move ! (2 ∷ []) $
            peeks ! (B κ) (Is (B κ)) (shows 𝓛 (B κ)) r (u ∷ []) (λ is.
            -- [what the reader owns; the token; true; room for what `new` gives; room for the reader; …]
            land ! (within ! at_n (stop !))
            (init ! 3 refl ((LL.lawful (T.the_type (αᵉ κ)) (T'.the_laws (αᵉ κ)) 𝓛).typed r _ is).0) $
            assigns ! (of_opd ! (load ! (within ! at_n (stop !)) (look ! 3 refl))) (within ! at-t (stop !))
            (init ! 4 refl ((LL.lawful (T.the_type (αᵉ κ)) (T'.the_laws (αᵉ κ)) 𝓛).typed r _ is).0) $
            rewrite ! 4 (λ (y : Val). ‵ (fat full_share reader-type b 0 y)) (ap only (LL.tells (D κ) (L κ) r (u ∷ [])
            is)) refl $
            rewrite ! 0 (λ (ys : List Val). ‵ ((B κ).own_val r ys)) (LL.tells (D κ) (L κ) r (u ∷ []) is) refl $
            move ! (2 ∷ []) $ drop ! $ move ! (3 ∷ []) $ k u r e))))

  module _ {M : Type 1} {𝓤 : Ura M} (𝓛 : Logic 𝓤) where
    open 𝓛 use {H}

    pub meets : (𝓣 : Tables 𝓤 H) (f : Fn) →
        ((κ : Lft) (q : Share) (h : Tokens) (a : Denots (E.rows 1 (κ, tt) X)) → Knowns X (E.out 1 (κ, tt) X a) →
        Asked P.asking h.cursor → Typed κ h → Walked 𝓛 κ q h a (WpFn 𝓤 H 𝓣.C 𝓣.Λ) f) →
        Triple 𝓤 (WpFn 𝓤 H 𝓣.C 𝓣.Λ f) (Plainly X P 𝓤 𝓛)
    meets 𝓣 f walk = by-walk 𝓛 (plainly X P) stayed (plainly-clauses X P 𝓤) f 𝓣 (
      Goes-none 𝓛 1 its yes (λ κs x f. refl),
      (Goes-none 𝓛 1 (λ _. I.the_row) yes (λ κs x f. refl), E.goes 1 𝓛 X),
    )
        (λ κs. ((λ r. R'.lowered r ∷ []), (LL.vals I.the_type I'.the_laws, E.spells 1 κs X)))
        (λ κs. (
          LL.tells (R.the_type (named_lft 1 0 tt κs)) (R'.the_laws (named_lft 1 0 tt κs)),
          (LL.tells I.the_type I'.the_laws, E.tellss 1 κs X),
        ))
        (λ κs qs bounds a _ are. asked 𝓤 P.asking a.1.0 (λ may.
        walk κs.0 qs.0 (record { row = a.0; cursor = a.1.0 }) a.1.1 (E.knowns 1 κs X a.1.1 are.1.1) may
        (are.0, are.1.0)))
