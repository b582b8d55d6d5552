-- The call of `new` in the walks of the functions that make a reader: what it is passed, what it asks, what is
-- known then.
use mathlib.Core.Path.{◌≡◌}
use mathlib.Core.List.{[], ◌∷◌}
use seplogic.Ra.Ura.{Ura}
use mir.Syntax.{erased}
use mir.Val.{Val}
use base.Logic.{SProp, ent, sep, snd∗, ex_e}
use base.Fml.{Lft, Share, ftrue, flft}
use prog.Memory.{Memory}
use prog.Routine.{Routine}
use types.Logic.{Logic, sem}
use contract.Monad.{Fun, fact}
use types.Kit.{Item, ‵, raw, ◌⊛◌, ⋆, ◌$◌, ◌∵◌, !, qed, move, use1, use2, split, join, frame, done}
use denote.Ref.{NamedLft}
use denote.Triple.Statement.{Contract}
use denote.Triple.Clauses.{ensured, lasts}
use denote.Triple.Entry.{Args}
use denote.Triple.Spec.{triple_of}
use Rattle.reader.specs.declared.Tokens.{Tokens}
use Rattle.reader.proofs.Held.{B, values, Params, twice}
use Rattle.reader.specs.contracts.Tokens.new as new

-- its contract
abbrev pub New : {M : Type 1} {𝓤 : Ura M} (𝓛 : Logic 𝓤) (mem : Memory → SProp 𝓤) (run : Routine →
    Fun 𝓤) → Contract 𝓤
New 𝓛 mem run = triple_of 𝓛 new.signature (new.spec 𝓛 mem run)

-- the lifetime as a local of a body has it
abbrev pub αᵉ : Lft → NamedLft
αᵉ κ = record { mir = erased; lft = κ }

-- r is made of the row and the cursor of h
abbrev pub Made : Tokens → Tokens → Type 0
Made h r = (r.row ≡ h.row) × (r.cursor ≡ h.cursor)

module _ {M : Type 1} {𝓤 : Ura M} (𝓛 : Logic 𝓤) (mem : Memory → SProp 𝓤) (run : Routine → Fun 𝓤)
    (κ : Lft)
    (q : Share) (h : Tokens) where
  abbrev parts : Args new.signature (κ, tt)
  parts = (h.row, (h.cursor, tt))

  abbrev pub to-new : (New 𝓛 mem run).Ghost
  to-new = (((κ, tt), (q, tt), tt, parts, values h), tt)

  -- what it asks is had beside what the row and the cursor own
  pub goes-new :
      ent 𝓤 (⋆ 𝓛 ((‵ (flft κ q) ⊛ ‵ ftrue) ∷ ‵ (Params κ h) ∷ [])) (sep 𝓤 ((New 𝓛 mem run).pre to-new)
      (sem 𝓛 (Params κ h)))
  goes-new =
      qed 𝓛 ((‵ (flft κ q) ⊛ ‵ ftrue) ∷ ‵ (Params κ h) ∷ []) ∵
      move ! (1 ∷ []) $ use1 𝓛 (‵ (Params κ h) ⊛ ‵ (Params κ h)) (twice 𝓛 κ h) $ split ! $
      move ! (2 ∷ 0 ∷ []) $
      use2 𝓛 (raw ((New 𝓛 mem run).pre to-new)) (qed 𝓛 ((‵ (flft κ q) ⊛ ‵ ftrue) ∷ ‵ (Params κ h) ∷ []) ∵
      join ! $ frame ! $ done !) $ frame ! $ done !

  -- what it gives at the machine value u: the token, the reader r, and what is said of r
  abbrev pub Gave : Val → Tokens → Item 𝓤
  Gave u r = ((‵ (flft κ q) ⊛ ‵ ftrue) ⊛ ‵ ((B κ).own_val r (u ∷ []))) ⊛ raw (ensured 𝓛 new.ended (new.clauses 𝓛
      mem run) (κ, tt) parts tt r)

  pub made-said : (r : Tokens) → ent 𝓤 (ensured 𝓛 new.ended (new.clauses 𝓛 mem run) (κ, tt) parts tt r)
      (fact 𝓤 (Made h r))
  made-said r = ex_e 𝓤 _ (λ ws. snd∗ 𝓤 (sem 𝓛 (lasts new.ended (κ, tt) parts ws)) (fact 𝓤 (Made h r)))
