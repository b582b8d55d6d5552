-- A value in a local is lent for a call, by `&mut` or by `&`, and comes back: after a `&mut` at its last value. And what
-- lies in memory, in a local or within a value behind a reference, is lent by `&`.
use Prim.Native.Nat.{ℕ}
use mathlib.Core.List.{List, [], ◌∷◌}
use seplogic.Ra.Ura.{Ura}
use base.Fraction.{full_share}
use base.Share
use mir.Syntax.{named}
use mir.Val.{vptr}
use base.Logic.{ent, wand, ex, apply∗}
use base.Fml.{Lft, Incl-refl, GName, Share, Fml, flft, fdead, fres, flent}
use types.Logic.{Logic}
use contract.BorrowLft.{meet_⊑_left, meet_⊑_right}
use types.Kit.{Item, ‵, raw, mean, ◌⊛◌, ⋆, some, later, ◌$◌, ◌∵◌, !, qed, by, move, use1, use2, use3, split}
use types.Kit.{pick, await, updating, now as at_once, show, done}
use types.SemTy.{Body}
use types.Tokens.{lft_new, lft_end, lent_back}
use denote.RattleType.{RattleType}
use denote.Lend.{lends_ref, ref_back, lends_shr}
use denote.Memory.{mem, part_at, shared_of}
use denote.Ref.{MutBor, MutRef, ShrRef}
use denote.Shares.{SharesAt}
use Rattle.walks.proofs.Whole.{Whole, Cell, Own, lies_in, lies_out}

-- A value that holds references at κ is lent for the meet of κ and a lifetime ν of the call: one half of κ's token goes
-- into the token of the meet, the other to the callee.
module _ (κ : Lft) (q : Share) where
  abbrev pub Short : ℕ → Fml
  Short ν = flft (ν ∷ κ) (Share.left q)

  abbrev pub Long : Fml
  Long = flft κ (Share.right q)

  module _ {M : Type 1} {𝓤 : Ura M} (𝓛 : Logic 𝓤) where
    -- the way back to ν's token
    open 𝓛 use {H, A}

    abbrev pub Way : ℕ → Item 𝓤
    Way ν = raw (wand 𝓤 (A.lft (ν ∷ []) (Share.left q)) (A.lft (ν ∷ []) full_share))

    module _ (ν : ℕ) where
      tokens-out :
          ent 𝓤 (⋆ 𝓛 (‵ (flft (ν ∷ []) full_share) ∷ ‵ (flft κ q) ∷ [])) (⋆ 𝓛 (‵ (Short ν) ∷ ‵ Long ∷ Way
          ν ∷ []))
      tokens-out =
          qed 𝓛 (‵ (flft (ν ∷ []) full_share) ∷ ‵ (flft κ q) ∷ []) ∵
          use1 𝓛 (‵ (flft (ν ∷ []) (Share.left q)) ⊛ Way ν) (𝓛.lfts.lft_carve ν (Share.left q)) $ split ! $
          move ! (2 ∷ []) $ use1 𝓛 (‵ (flft κ (Share.left q)) ⊛ ‵ Long) (𝓛.lfts.lft_split κ q) $ split ! $
          -- [a half of κ's token; the other; a share of ν's; the way back]
          move ! (2 ∷ 0 ∷ []) $ use2 𝓛 (‵ (Short ν)) (𝓛.lfts.lft_meet (ν ∷ []) κ (Share.left q)) $ done !

      tokens-back :
          ent 𝓤 (⋆ 𝓛 (‵ (Short ν) ∷ ‵ Long ∷ Way ν ∷ [])) (H.⇛ (⋆ 𝓛 (‵ (fdead (ν ∷ κ)) ∷ ‵ (flft κ q) ∷
          [])))
      tokens-back =
          qed 𝓛 (‵ (Short ν) ∷ ‵ Long ∷ Way ν ∷ []) ∵ updating ! $
          use1 𝓛 (‵ (flft (ν ∷ []) (Share.left q)) ⊛ ‵ (flft κ (Share.left q))) (𝓛.lfts.lft_unmeet (ν ∷ [])
          κ (Share.left q)) $ split ! $
          move ! (1 ∷ 2 ∷ []) $ use2 𝓛 (‵ (flft κ q)) (𝓛.lfts.lft_join κ q) $ move ! (1 ∷ 2 ∷ []) $
          use2 𝓛 (‵ (flft (ν ∷ []) full_share)) (apply∗ 𝓤 (A.lft (ν ∷ []) (Share.left q))
          (A.lft (ν ∷ []) full_share)) $ lft_end ! tt $
          use1 𝓛 (‵ (fdead (ν ∷ κ))) (𝓛.lfts.dead-incl (ν ∷ κ) (ν ∷ []) (meet_⊑_left (ν ∷ []) κ)) $ at_once ! $
          done !

-- What lies at (b, o) is shared for the meet, where its type says how a `&` is made, and comes back.
module _ (R : RattleType) (h : R.Denot) (b o : ℕ) where
  abbrev pub ShrAt : Lft → Fml
  ShrAt κ = (ShrRef (named 0) κ R).own_val (record { ref_ptr = (b, o); now = h }) (vptr b o ∷ [])

  module _ (κ : Lft) (q : Share) {M : Type 1} {𝓤 : Ura M} (𝓛 : Logic 𝓤) where
    open 𝓛 use {H}

    -- what is kept meanwhile: the loan, and the way back to ν's token
    abbrev pub KeptAt : ℕ → Item 𝓤
    KeptAt ν = ‵ (flent (ν ∷ κ) (part_at R full_share h b o)) ⊛ Way κ q 𝓛 ν

    abbrev pub SharedAt : ℕ → Item 𝓤
    SharedAt ν = ‵ (ShrAt (ν ∷ κ)) ⊛ ‵ (Short κ q ν) ⊛ ‵ (Long κ q) ⊛ KeptAt ν

    pub shares-at :
        SharesAt 𝓛 R h (shared_of R h) κ →
        ent 𝓤 (⋆ 𝓛 (‵ (part_at R full_share h b o) ∷ ‵ (flft κ q) ∷ []))
        (H.⇛ (ex 𝓤 (λ (ν : ℕ). mean 𝓛 (SharedAt ν))))
    shares-at s =
        qed 𝓛 (‵ (part_at R full_share h b o) ∷ ‵ (flft κ q) ∷ []) ∵ updating ! $
        lft_new ! tt (λ ν. move ! (0 ∷ 2 ∷ []) $
        use2 𝓛 (‵ (Short κ q ν) ⊛ ‵ (Long κ q) ⊛ Way κ q 𝓛 ν) (tokens-out κ q 𝓛 ν) $ split ! $
        -- [the token of the meet; the rest of κ's token and the way back to ν's; what lies there]
        move ! (2 ∷ 0 ∷ []) $
        use2 𝓛 (later ((‵ (ShrAt (ν ∷ κ)) ⊛ ‵ (flent (ν ∷ κ) (part_at R full_share h b o))) ⊛ ‵ (Short κ q ν)))
        (lends_shr 𝓛 R (named 0) (ν ∷ κ) full_share h b o κ s ((ν ∷ κ, Share.left q) ∷ []) (meet_⊑_right (ν ∷ []) κ)
        (Incl-refl (ν ∷ κ))) $
        await ! tt $ split ! $ split ! $ move ! (3 ∷ []) $ split ! $
        -- [the rest of κ's token; the way back to ν's; the reference; the loan; the token of the meet]
        at_once ! $ show ! (λ (ν : ℕ). mean 𝓛 (SharedAt ν)) ν $
        move ! (2 ∷ 4 ∷ 0 ∷ 3 ∷ 1 ∷ []) $ done !)

    pub back-at :
        (ν : ℕ) →
        ent 𝓤 (⋆ 𝓛 (‵ (Short κ q ν) ∷ ‵ (Long κ q) ∷ KeptAt ν ∷ []))
        (H.⇛ (⋆ 𝓛 (‵ (part_at R full_share h b o) ∷ ‵ (flft κ q) ∷ [])))
    back-at ν =
        qed 𝓛 (‵ (Short κ q ν) ∷ ‵ (Long κ q) ∷ KeptAt ν ∷ []) ∵ updating ! $ move ! (2 ∷ []) $ split ! $
        move ! (2 ∷ 3 ∷ 1 ∷ []) $
        use3 𝓛 (later (‵ (fdead (ν ∷ κ)) ⊛ ‵ (flft κ q))) (tokens-back κ q 𝓛 ν) $ await ! tt $ split ! $
        -- [the end of the meet; κ's token; the loan]
        move ! (0 ∷ 2 ∷ []) $ lent_back ! tt $ at_once ! $ done !

module _ (T : Whole) (l : ℕ) where
  -- the references to the local, and the loan: what the lender has of it
  abbrev pub ref : GName → T.row.Denot → MutBor T.row.Denot
  ref γ h = record { ref_ptr = (l, 0); ghost_name = γ; now = h }

  abbrev pub Ref : Lft → GName → T.row.Denot → Fml
  Ref κ γ h = (MutRef (named 0) κ T.row).own_val (ref γ h) (vptr l 0 ∷ [])

  abbrev Loan : Lft → GName → Fml
  Loan κ γ = flent κ (Body (mem T.row) l 0 γ)

  abbrev pub Shr : Lft → T.row.Denot → Fml
  Shr κ h = ShrAt T.row h l 0 κ

  -- a value that holds no reference is lent for a lifetime ν of its own
  module _ {M : Type 1} {𝓤 : Ura M} (𝓛 : Logic 𝓤) (h : T.row.Denot) where
    open 𝓛 use {H}

    abbrev pub Lent : ℕ → GName → Item 𝓤
    Lent ν γ = ‵ (Ref (ν ∷ []) γ h) ⊛ ‵ (flft (ν ∷ []) full_share) ⊛ ‵ (Loan (ν ∷ []) γ)

    pub lends :
        ent 𝓤 (⋆ 𝓛 (‵ (Cell T full_share h l 0) ∷ ‵ (Own T h) ∷ []))
        (H.⇛ (ex 𝓤 (λ (ν : ℕ). ex 𝓤 (λ (γ : GName). mean 𝓛 (Lent ν γ)))))
    lends =
        qed 𝓛 (‵ (Cell T full_share h l 0) ∷ ‵ (Own T h) ∷ []) ∵ updating ! $
        use2 𝓛 (‵ (part_at T.row full_share h l 0)) (lies_in T 𝓛 h l 0) $
        lft_new ! tt (λ ν. move ! (1 ∷ []) $
        use1 𝓛 (later (some (λ (γ : GName). ‵ (Ref (ν ∷ []) γ h) ⊛ ‵ (Loan (ν ∷ []) γ)))) (lends_ref 𝓛
        T.row (named 0) (ν ∷ []) h l 0) $
        await ! tt $ pick ! (λ γ. split ! $
        at_once ! $ show ! (λ (ν : ℕ). ex 𝓤 (λ (γ : GName). mean 𝓛 (Lent ν γ))) ν $
        show ! (λ (γ : GName). mean 𝓛 (Lent ν γ)) γ $
        move ! (0 ∷ 2 ∷ 1 ∷ []) $ done !))

    pub comes_back :
        (ν : ℕ) (γ : GName) →
        ent 𝓤 (⋆ 𝓛 (‵ (flft (ν ∷ []) full_share) ∷ ‵ (Loan (ν ∷ []) γ) ∷ ‵ (fres γ (T.row.coded.code h)) ∷
        []))
        (H.⇛ (⋆ 𝓛 (‵ (Cell T full_share h l 0) ∷ ‵ (Own T h) ∷ [])))
    comes_back ν γ =
        qed 𝓛 (‵ (flft (ν ∷ []) full_share) ∷ ‵ (Loan (ν ∷ []) γ) ∷ ‵ (fres γ (T.row.coded.code h)) ∷ []) ∵
        updating ! $ lft_end ! tt $
        use3 𝓛 (later (‵ (part_at T.row full_share h l 0))) (ref_back 𝓛 T.row (ν ∷ []) γ h l 0) $
        await ! tt $
        use1 𝓛 (‵ (Cell T full_share h l 0) ⊛ ‵ (Own T h)) (lies_out T 𝓛 h l 0) $ split ! $ at_once ! $ done !

  -- one that holds references at κ: by `&mut`, and by `&`
  module _ (κ : Lft) (q : Share) {M : Type 1} {𝓤 : Ura M} (𝓛 : Logic 𝓤) where
    open 𝓛 use {H}

    abbrev Start : T.row.Denot → List (Item 𝓤)
    Start h = ‵ (Cell T full_share h l 0) ∷ ‵ (Own T h) ∷ ‵ (flft κ q) ∷ []

    -- what is kept meanwhile: the loan, and the way back to ν's token
    abbrev pub Kept : ℕ → GName → Item 𝓤
    Kept ν γ = ‵ (Loan (ν ∷ κ) γ) ⊛ Way κ q 𝓛 ν

    abbrev pub KeptShr : T.row.Denot → ℕ → Item 𝓤
    KeptShr h = KeptAt T.row h l 0 κ q 𝓛

    abbrev pub LentWithin : T.row.Denot → ℕ → GName → Item 𝓤
    LentWithin h ν γ = ‵ (Ref (ν ∷ κ) γ h) ⊛ ‵ (Short κ q ν) ⊛ ‵ (Long κ q) ⊛ Kept ν γ

    abbrev pub SharedWithin : T.row.Denot → ℕ → Item 𝓤
    SharedWithin h ν = ‵ (Shr (ν ∷ κ) h) ⊛ ‵ (Short κ q ν) ⊛ ‵ (Long κ q) ⊛ KeptShr h ν

    module _ (h : T.row.Denot) where
      pub lends-within :
          ent 𝓤 (⋆ 𝓛 (Start h)) (H.⇛ (ex 𝓤 (λ (ν : ℕ). ex 𝓤 (λ (γ : GName). mean 𝓛 (LentWithin h ν γ)))))
      lends-within =
          qed 𝓛 (Start h) ∵ updating ! $
          use2 𝓛 (‵ (part_at T.row full_share h l 0)) (lies_in T 𝓛 h l 0) $
          lft_new ! tt (λ ν. move ! (1 ∷ []) $
          use1 𝓛 (later (some (λ (γ : GName). ‵ (Ref (ν ∷ κ) γ h) ⊛ ‵ (Loan (ν ∷ κ) γ)))) (lends_ref 𝓛
          T.row (named 0) (ν ∷ κ) h l 0) $
          await ! tt $ pick ! (λ γ. split ! $
          -- [the reference; the loan; ν's token; κ's token]
          move ! (2 ∷ 3 ∷ []) $ use2 𝓛 (‵ (Short κ q ν) ⊛ ‵ (Long κ q) ⊛ Way κ q 𝓛 ν) (tokens-out κ q 𝓛
          ν) $ split ! $ move ! (1 ∷ []) $ split ! $
          -- [the rest of κ's token; the way back to ν's; the token of the meet; the reference; the loan]
          at_once ! $ show ! (λ (ν : ℕ). ex 𝓤 (λ (γ : GName). mean 𝓛 (LentWithin h ν γ))) ν $
          show ! (λ (γ : GName). mean 𝓛 (LentWithin h ν γ)) γ $
          move ! (3 ∷ 2 ∷ 0 ∷ 4 ∷ 1 ∷ []) $ done !))

      pub back-within :
          (ν : ℕ) (γ : GName) →
          ent 𝓤 (⋆ 𝓛 (‵ (Short κ q ν) ∷ ‵ (Long κ q) ∷ (Kept ν γ ⊛ ‵ (fres γ (T.row.coded.code h))) ∷ []))
          (H.⇛ (⋆ 𝓛 (Start h)))
      back-within ν γ =
          qed 𝓛 (‵ (Short κ q ν) ∷ ‵ (Long κ q) ∷ (Kept ν γ ⊛ ‵ (fres γ (T.row.coded.code h))) ∷ []) ∵
          updating ! $
          move ! (2 ∷ []) $ split ! $ split ! $ move ! (3 ∷ 4 ∷ 1 ∷ []) $
          use3 𝓛 (later (‵ (fdead (ν ∷ κ)) ⊛ ‵ (flft κ q))) (tokens-back κ q 𝓛 ν) $ await ! tt $ split ! $
          -- [the end of the meet; κ's token; the loan; res]
          move ! (0 ∷ 2 ∷ 3 ∷ []) $ use3 𝓛 (later (‵ (part_at T.row full_share h l 0))) (ref_back 𝓛 T.row
          (ν ∷ κ) γ h l 0) $ await ! tt $
          use1 𝓛 (‵ (Cell T full_share h l 0) ⊛ ‵ (Own T h)) (lies_out T 𝓛 h l 0) $ split ! $ at_once ! $
          done !

      -- a `&` is made by what its type says of that
      pub shares-within :
          SharesAt 𝓛 T.row h (shared_of T.row h) κ →
          ent 𝓤 (⋆ 𝓛 (Start h)) (H.⇛ (ex 𝓤 (λ (ν : ℕ). mean 𝓛 (SharedWithin h ν))))
      shares-within s =
          qed 𝓛 (Start h) ∵ use2 𝓛 (‵ (part_at T.row full_share h l 0)) (lies_in T 𝓛 h l 0) $
          by ! (shares-at T.row h l 0 κ q 𝓛 s)

      pub share_back :
          (ν : ℕ) → ent 𝓤 (⋆ 𝓛 (‵ (Short κ q ν) ∷ ‵ (Long κ q) ∷ KeptShr h ν ∷ [])) (H.⇛ (⋆ 𝓛 (Start h)))
      share_back ν =
          qed 𝓛 (‵ (Short κ q ν) ∷ ‵ (Long κ q) ∷ KeptShr h ν ∷ []) ∵ updating ! $
          use3 𝓛 (later (‵ (part_at T.row full_share h l 0) ⊛ ‵ (flft κ q))) (back-at T.row h l 0 κ q 𝓛 ν) $
          await ! tt $ split ! $ use1 𝓛 (‵ (Cell T full_share h l 0) ⊛ ‵ (Own T h)) (lies_out T 𝓛 h l 0) $ split ! $
          at_once ! $ done !
