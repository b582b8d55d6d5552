-- The operands and places of a walk that name a local and nothing within it, and a local's end.
use mathlib.Core.Path.{◌≡◌, sym, ap, subst}
use Prim.Native.Nat.{ℕ}
use mathlib.Core.List.{List, [], ◌∷◌}
use seplogic.Ra.Ura.{Ura}
use base.Fraction.{full_share}
use mir.Syntax.{Ty, Step as PStep, place, copy}
use mir.Val.{Val}
use base.Logic.{SProp, ent, sep, wand, all, all_e, apply∗, via, mono_l, mono_r}
use base.Fml.{Share, fat, froom, fdies}
use prog.Wp.{Env, Spot, spot_of}
use types.Logic.{Logic}
use types.Kit.{Item, Goal, Step, step, frees, ‵, raw, ◌⊛◌, mean, ⋆, nth, del, pull, push, ◌$◌, ◌∵◌, !, qed}
use types.Kit.{move, use1, use2, split, assume, frame, each, done}
use types.Part.{Part}
use types.Run.{Finds, Walks, Opd, look, stop, from, load, free1}

-- a fact that a script uses more than once gets a name
abbrev pub naming {α β} : {X : Type α} {Y : Type β} → X → (X → Y) → Y
naming x k = k x

module _ {M : Type 1} {𝓤 : Ura M} {𝓛 : Logic 𝓤} {K : Type 0} {Γ : List (Item 𝓤)}
    {E : Env 𝓤 𝓛.H} {i : ℕ} where
  -- the local i
  open 𝓛 use {H}

  abbrev pub itself : K → Finds K 𝓛 Γ E (place i []) (spot_of 𝓤 H E i)
  itself t = from t (stop t)

  -- what it holds, which entry n of the context says
  abbrev pub local :
      K → (n : ℕ) {q : Share} {v : Val} →
      nth 𝓛 n Γ ≡ ‵ (fat q (spot_of 𝓤 H E i).0 (spot_of 𝓤 H E i).1 (spot_of 𝓤 H E i).2 v) →
      Opd K 𝓛 Γ E (copy (place i [])) v
  local t n e = load t (from t (stop t)) (look t n e)

-- a place within the local i, which is known to lie at sp
module _ {M : Type 1} {𝓤 : Ura M} {𝓛 : Logic 𝓤} {K : Type 0} {Γ : List (Item 𝓤)}
    {E : Env 𝓤 𝓛.H} {i : ℕ} {sp : Spot 𝓤 𝓛.H} where
  open 𝓛 use {H}

  pub within :
      K → spot_of 𝓤 H E i ≡ sp → {st : List PStep} {sp' : Spot 𝓤 H} → Walks K 𝓛 Γ E sp st sp' →
      Finds K 𝓛 Γ E (place i st) sp'
  within t e {st} {sp'} w = from t (subst (λ (s : Spot 𝓤 H). Walks K 𝓛 Γ E s st sp') (sym e) w)

-- a cell that stands within one of two entries that are made one, and within entry n of the context
module _ {M : Type 1} {𝓤 : Ura M} {𝓛 : Logic 𝓤} {K : Type 0} {q : Share} {τ : Ty}
    {b o : ℕ} {v : Val} where
  open 𝓛 use {H}

  pub here :
      {i j : Item 𝓤} {back : Val → Item 𝓤} → Part K 𝓛 i q τ b o v back → Part K 𝓛 (i ⊛ j) q τ b o v (λ u. back u ⊛ j)
  here {i} {j} {back} p = record {
    out =
        qed 𝓛 ((i ⊛ j) ∷ []) ∵ split ! $
        use1 𝓛 (‵ (fat q τ b o v) ⊛ raw (all 𝓤 Back)) p.out $ split ! $ frame ! $
        each ! (λ (u : Val). wand 𝓤 (H.at q τ b o u) (mean 𝓛 (back u ⊛ j))) (λ u.
        assume {P = mean 𝓛 (back u ⊛ j)} ! (‵ (fat q τ b o u)) $ move ! (1 ∷ []) $
        use1 𝓛 (raw (Back u)) (all_e 𝓤 Back u) $ move ! (1 ∷ 0 ∷ []) $
        use2 𝓛 (back u) (apply∗ 𝓤 (H.at q τ b o u) (mean 𝓛 (back u))) $ done !);
    same = ap (λ (k : Item 𝓤). k ⊛ j) p.same;
  }
    where
      Back : Val → SProp 𝓤
      Back u = wand 𝓤 (H.at q τ b o u) (mean 𝓛 (back u))

  pub there :
      {i j : Item 𝓤} {back : Val → Item 𝓤} → Part K 𝓛 j q τ b o v back → Part K 𝓛 (i ⊛ j) q τ b o v (λ u. i ⊛ back u)
  there {i} {j} {back} p = record {
    out =
        qed 𝓛 ((i ⊛ j) ∷ []) ∵ split ! $ move ! (1 ∷ []) $
        use1 𝓛 (‵ (fat q τ b o v) ⊛ raw (all 𝓤 Back)) p.out $ split ! $ frame ! $
        each ! (λ (u : Val). wand 𝓤 (H.at q τ b o u) (mean 𝓛 (i ⊛ back u))) (λ u.
        assume {P = mean 𝓛 (i ⊛ back u)} ! (‵ (fat q τ b o u)) $ move ! (1 ∷ []) $
        use1 𝓛 (raw (Back u)) (all_e 𝓤 Back u) $ move ! (1 ∷ 0 ∷ []) $
        use2 𝓛 (back u) (apply∗ 𝓤 (H.at q τ b o u) (mean 𝓛 (back u))) $ move ! (1 ∷ 0 ∷ []) $ done !);
    same = ap (λ (k : Item 𝓤). i ⊛ k) p.same;
  }
    where
      Back : Val → SProp 𝓤
      Back u = wand 𝓤 (H.at q τ b o u) (mean 𝓛 (back u))

  pub found :
      {i j : Item 𝓤} {back : Val → Item 𝓤} → j ≡ i → Part K 𝓛 i q τ b o v back → Part K 𝓛 j q τ b o v back
  found {back = back} e = subst (λ (k : Item 𝓤). Part K 𝓛 k q τ b o v back) (sym e)

-- a local is freed at the function's end: entry n of the context is its cell, and the next one its right to be
-- freed
module _ {M : Type 1} {𝓤 : Ura M} {𝓛 : Logic 𝓤} {K : Type 0} {Γ : List (Item 𝓤)}
  where
    open 𝓛 use {H}

    pub gone :
        K → (n : ℕ) {τ : Ty} {b : ℕ} {v : Val} {E : Env 𝓤 H} {G : Goal 𝓤 H} →
        nth 𝓛 n Γ ≡ ‵ (fat full_share τ b 0 v) → nth 𝓛 n (del 𝓛 n Γ) ≡ ‵ (fdies τ b) →
        Step K 𝓛 (del 𝓛 n (del 𝓛 n Γ)) (frees E G) Γ (frees ((τ, b) ∷ E) G)
    gone t n {τ} {b} {v} e d = step (λ s. record {
      prf =
          via 𝓤 (sep 𝓤 (H.at full_share τ b 0 v) (⋆ 𝓛 (del 𝓛 n Γ)))
          (subst (λ (j : Item 𝓤). ent 𝓤 (⋆ 𝓛 Γ) (sep 𝓤 (mean 𝓛 j) (⋆ 𝓛 (del 𝓛 n Γ)))) e
          (pull 𝓛 n Γ))
          (via 𝓤 (sep 𝓤 (H.room τ b 0) (⋆ 𝓛 (del 𝓛 n Γ)))
          (mono_l 𝓤 (⋆ 𝓛 (del 𝓛 n Γ)) (𝓛.laws.at_room τ b 0 v))
          (via 𝓤 (sep 𝓤 (H.room τ b 0) (⋆ 𝓛 (‵ (fdies τ b) ∷ del 𝓛 n (del 𝓛 n Γ))))
          (mono_r 𝓤 (H.room τ b 0)
          (via 𝓤 (sep 𝓤 (H.dies τ b) (⋆ 𝓛 (del 𝓛 n (del 𝓛 n Γ))))
          (subst (λ (j : Item 𝓤). ent 𝓤 (⋆ 𝓛 (del 𝓛 n Γ)) (sep 𝓤 (mean 𝓛 j)
          (⋆ 𝓛 (del 𝓛 n (del 𝓛 n Γ))))) d (pull 𝓛 n (del 𝓛 n Γ)))
          (push 𝓛 (‵ (fdies τ b)) (del 𝓛 n (del 𝓛 n Γ)))))
          (via 𝓤 (⋆ 𝓛 (‵ (froom τ b 0) ∷ ‵ (fdies τ b) ∷ del 𝓛 n (del 𝓛 n Γ)))
          (push 𝓛 (‵ (froom τ b 0)) (‵ (fdies τ b) ∷ del 𝓛 n (del 𝓛 n Γ))) (free1 t $ s).prf)));
    })
