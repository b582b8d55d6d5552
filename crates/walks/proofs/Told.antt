-- A function's theorem from a walk of its code: the walk shows that the code meets the contract, over any tables, and
-- the tables are those in which each call means the callee's own routine.
use mathlib.Core.Path.{◌≡◌}
use seplogic.Ra.Ura.{Ura}
use mir.Syntax.{Fn}
use base.Logic.{ent, sep}
use prog.Wp.{Heap, WpFn, Closed, Tables}
use prog.Model.{Model}
use prog.Routine.{Callee, Routine, Env}
use types.Logic.{Logic}
use contract.Lifetimes.{Lfts, Shares, AllOutlive}
use contract.Running.{Running, tables, tables_of}
use sound.WpLaws.{WpFn-mono}
use denote.RattleType.{flat}
use denote.Laws.{Are, Ises, Spells, Tellss, valss}
use denote.Signature.{types_at}
use denote.Triple.Clauses.{Ended, Clauses, closing}
use denote.Triple.Entry.{Args, on_entry}
use denote.Triple.Spec.{triple_of}
use denote.Triple.Statement.{Contract, Triple}
use denote.Triple.Table.{entered, cited}
use denote.Triple.Walked.{Stays, AllGo, walk_of, walked, walk_Meets}

-- hs is what is had of each parameter at exit, gs that this gives what the contract says of it, sp and tl the
-- parameters' machine values
pub by-walk :
    {M : Type 1} {𝓤 : Ura M} (𝓛 : Logic 𝓤) (T : Ended) (hs : Stays T.signature.params
    T.kept) (c : Clauses 𝓤 T) (f : Fn) (𝓣 : Tables 𝓤 𝓛.H)
    (gs : AllGo 𝓛 T.signature.lifetimes T.signature.params T.kept hs)
    (sp : (κs : Lfts T.signature.lifetimes) → Spells (types_at T.signature.params κs))
    (tl : (κs : Lfts T.signature.lifetimes) → Tellss (types_at T.signature.params κs) (Ises
    (types_at T.signature.params κs)) (sp κs)) →
    ((κs : Lfts T.signature.lifetimes) (qs : Shares T.signature.lifetimes)
    (bounds : AllOutlive T.signature.lifetimes T.signature.outlives κs) (a : Args T.signature κs)
    (g : (c κs a).ghost) → Are (types_at T.signature.params κs) (Ises (types_at T.signature.params κs)) a
    (valss (types_at T.signature.params κs) (sp κs) a) →
    ent 𝓤 (sep 𝓤 (on_entry 𝓛 T.signature κs qs a (valss (types_at T.signature.params κs) (sp κs) a))
    ((c κs a).requires g))
    (WpFn 𝓤 𝓛.H 𝓣.C 𝓣.Λ f (flat (types_at T.signature.params κs) (valss (types_at T.signature.params κs)
    (sp κs) a)) ((walk_of 𝓛 T hs c).post (
      (κs, qs, bounds, a, valss (types_at T.signature.params κs) (sp κs) a),
      g,
    )))) →
    Triple 𝓤 (WpFn 𝓤 𝓛.H 𝓣.C 𝓣.Λ f) (triple_of 𝓛 T.signature (closing 𝓛 T c))
by-walk {𝓤 = 𝓤} 𝓛 T hs c f 𝓣 gs sp tl walk =
    walk_Meets 𝓛 T hs gs c (WpFn 𝓤 𝓛.H 𝓣.C 𝓣.Λ f) (WpFn-mono 𝓤 𝓛.H 𝓛.laws 𝓣 f)
    (walked 𝓛 T hs c (WpFn 𝓤 𝓛.H 𝓣.C 𝓣.Λ f) sp tl walk)

module _ {M : Type 1} (𝓤 : Ura M) (H : Heap 𝓤) (𝓜 : Model 𝓤 H) (𝓡 : Running 𝓤 H 𝓜) (γ : Env) where
  -- the callee j, whose routine meets d, meets d in the tables
  abbrev pub Cites : Tables 𝓤 H → Type 2
  Cites 𝓣 = (d : Contract 𝓤) (j : Callee) (r : Routine) → γ j ≡ r → Triple 𝓤 (𝓡.run r) d → Triple 𝓤 (𝓣.C j) d

  pub told : (c : Contract 𝓤) (k : Callee) (f : Fn) → Closed 𝓤 H (tables 𝓤 H 𝓜 𝓡 γ).C (tables 𝓤 H 𝓜 𝓡 γ).Λ k f →
      ((𝓣 : Tables 𝓤 H) → Cites 𝓣 → Triple 𝓤 (WpFn 𝓤 H 𝓣.C 𝓣.Λ f) c) → Triple 𝓤 (𝓡.run (γ k)) c
  unfolding tables_of
  told c k f closed walk =
      entered 𝓤 H c (tables 𝓤 H 𝓜 𝓡 γ).C (tables 𝓤 H 𝓜 𝓡 γ).Λ k f closed
      (walk (tables_of 𝓤 H 𝓜 (tables 𝓤 H 𝓜 𝓡 γ)) (λ d j r at met. cited 𝓤 H d 𝓜 𝓡 γ j r at met))
