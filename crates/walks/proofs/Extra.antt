-- The plain parameters of a function behind those that a law names: none, one or two.
use mathlib.Core.Path.{◌≡◌, refl}
use Prim.Native.Nat.{ℕ, suc}
use mathlib.Core.List.{List, [], ◌∷◌, ◌++◌}
use lib.ListN.{length}
use seplogic.Ra.Ura.{Ura}
use base.Fraction.{full_share}
use mir.Syntax.{Ty, Local, local, value_local, Opd, copy, place}
use base.Logic.{ent, emp, id⊢}
use base.Fml.{ftrue, froom, fdies, fat}
use prog.Wp.{Heap, Env, spot_of}
use types.Logic.{Logic, sem}
use contract.Lifetimes.{Lfts}
use types.Kit.{Item, Goal, Go, Sq, Step, step, allocs, passes, frees, nth, ‵, ◌⊛◌, ◌$◌, ◌∵◌, !, qed, move, drop}
use types.Kit.{split, join, fjoin, done}
use types.Part.{whole, look_in}
use types.Run.{Opds, init, stop, load, and_then, no_more, alloc1, pass1, pass0}
use denote.Exit.{yes}
use denote.RattleType.{RattleType, Denots, owns, flat}
use denote.Laws.{Are, Ises, Spells, Tellss, valss, Is}
use denote.Signature.{Slot, plain, types_at}
use denote.Steps.{owned, nothing}
use denote.Triple.End.{Kepts, Fins, all}
use denote.Triple.Walked.{Stays, stay_dropped, fits_of, has_of, AllGo, Goes-dropped}
use Rattle.walks.proofs.Operands.{within, gone, found, here, there}
use Rattle.walks.proofs.Plain.{Plain, last, silent}

pub data Extra : Type 2 where
  none : Extra
  one : Plain → Extra
  two : Plain → Plain → Extra

abbrev pub Values : Extra → Type 0
Values none = Unit {0}
Values (one P) = P.row.Denot
Values (two P Q) = P.row.Denot × Q.row.Denot

abbrev pub locals : Extra → List Local → List Local
locals none ls = ls
locals (one P) ls = local P.mir value_local ∷ ls
locals (two P Q) ls = local P.mir value_local ∷ local Q.mir value_local ∷ ls

-- the operands that read them, where n is the first of their locals
abbrev pub operands : Extra → ℕ → List Opd
operands none n = []
operands (one P) n = copy (place n []) ∷ []
operands (two P Q) n = copy (place n []) ∷ copy (place (suc n) []) ∷ []

-- the number of the first local behind them, where n is the first of theirs
abbrev pub beyond : Extra → ℕ → ℕ
beyond none n = n
beyond (one P) n = suc n
beyond (two P Q) n = suc (suc n)

module _ (n : ℕ) where
  abbrev pub slots : Extra → List (Slot n)
  slots none = []
  slots (one P) = plain (λ _. P.row) ∷ []
  slots (two P Q) = plain (λ _. P.row) ∷ plain (λ _. Q.row) ∷ []

  abbrev pub kepts : (X : Extra) → Kepts (slots X)
  kepts X = all yes (slots X)

  -- nothing is had of them at exit
  abbrev pub stays : (X : Extra) → Stays (slots X) (kepts X)
  stays none = tt
  stays (one P) = (stay_dropped (plain (λ _. P.row)) yes, tt)
  stays (two P Q) = (stay_dropped (plain (λ _. P.row)) yes, (stay_dropped (plain (λ _. Q.row)) yes, tt))

  pub goes : {M : Type 1} {𝓤 : Ura M} (𝓛 : Logic 𝓤) (X : Extra) → AllGo 𝓛 n
      (slots X) (kepts X) (stays X)
  goes 𝓛 none = tt
  goes 𝓛 (one P) = (Goes-dropped 𝓛 n (plain (λ _. P.row)) yes (λ κs. silent P yes), tt)
  goes 𝓛 (two P Q) = (
    Goes-dropped 𝓛 n (plain (λ _. P.row)) yes (λ κs. silent P yes),
    (Goes-dropped 𝓛 n (plain (λ _. Q.row)) yes (λ κs. silent Q yes), tt),
  )

  module _ (κs : Lfts n) where
    abbrev pub rows : Extra → List RattleType
    rows X = types_at (slots X) κs

    abbrev pub out : (X : Extra) → Denots (rows X) → Values X
    out none a = tt
    out (one P) a = a.0
    out (two P Q) a = (a.0, a.1.0)

    abbrev pub args : (X : Extra) → Values X → Denots (rows X)
    args none x = tt
    args (one P) x = (x, tt)
    args (two P Q) x = (x.0, (x.1, tt))

    pub out-args : (X : Extra) (x : Values X) → out X (args X x) ≡ x
    out-args none x = refl
    out-args (one P) x = refl
    out-args (two P Q) x = refl

    abbrev pub spells : (X : Extra) → Spells (rows X)
    spells none = tt
    spells (one P) = ((λ x. P.val x ∷ []), tt)
    spells (two P Q) = ((λ x. P.val x ∷ []), ((λ y. Q.val y ∷ []), tt))

    pub tellss : (X : Extra) → Tellss (rows X) (Ises (rows X)) (spells X)
    tellss none = tt
    tellss (one P) = (P.tells, tt)
    tellss (two P Q) = (P.tells, (Q.tells, tt))

    pub lasts : (X : Extra) (a : Denots (rows X)) → Fins κs (slots X) (kepts X) a
    lasts none a = tt
    lasts (one P) a = (last P yes a.0, tt)
    lasts (two P Q) a = (last P yes a.0, (last Q yes a.1.0, tt))

    pub fits : (X : Extra) (a : Denots (rows X)) → fits_of κs (slots X) (kepts X) (stays X) a (lasts X a)
    unfolding lasts
    fits none a = tt
    fits (one P) a = (tt, tt)
    fits (two P Q) a = (tt, (tt, tt))

-- each is of its type
abbrev pub Knowns : (X : Extra) → Values X → Type 0
Knowns none x = Unit {0}
Knowns (one P) x = Is P.row x (P.val x ∷ [])
Knowns (two P Q) x = Is P.row x.0 (P.val x.0 ∷ []) × Is Q.row x.1 (Q.val x.1 ∷ [])

pub knowns : (n : ℕ) (κs : Lfts n) (X : Extra) (a : Denots (rows n κs X)) → Are (rows n κs X) (Ises (rows n κs X))
    a (valss (rows n κs X) (spells n κs X) a) → Knowns X (out n κs X a)
knowns n κs none a are = tt
knowns n κs (one P) a are = are.0
knowns n κs (two P Q) a are = (are.0, are.1.0)

module _ {M : Type 1} {𝓤 : Ura M} (𝓛 : Logic 𝓤) (n : ℕ) (κs : Lfts n) where
  -- so they are owned, for a call or at exit
  pub owned-all : (X : Extra) (x : Values X) → Knowns X x → ent 𝓤 (emp 𝓤) (sem 𝓛 (owns (rows n κs X)
      (args n κs X x) (valss (rows n κs X) (spells n κs X) (args n κs X x))))
  owned-all none x is = id⊢ 𝓤 (emp 𝓤)
  owned-all (one P) x is =
      qed 𝓛 [] ∵ nothing ! $ owned ! P.row (Is P.row) (P.makes 𝓛) x _ is $ fjoin ! $ done !
  owned-all (two P Q) x is =
      qed 𝓛 [] ∵ nothing ! $ owned ! Q.row (Is Q.row) (Q.makes 𝓛) x.1 _ is.1 $ fjoin ! $
      owned ! P.row (Is P.row) (P.makes 𝓛) x.0 _ is.0 $ fjoin ! $ done !

  pub had-all : (X : Extra) (a : Denots (rows n κs X)) → ent 𝓤 (emp 𝓤) (sem 𝓛 (has_of κs (slots n X) (kepts n X)
      (stays n X) a (lasts n κs X a) (valss (rows n κs X) (spells n κs X) a)))
  had-all none a = id⊢ 𝓤 (emp 𝓤)
  had-all (one P) a = qed 𝓛 [] ∵ nothing ! $ nothing ! $ fjoin ! $ done !
  had-all (two P Q) a = qed 𝓛 [] ∵ nothing ! $ nothing ! $ fjoin ! $ nothing ! $ fjoin ! $ done !

-- their locals: the blocks, the environment with them in front, and the room for them or what they hold, as one entry
-- of the context
abbrev pub Blocks : Extra → Type 0
Blocks none = Unit {0}
Blocks (one P) = ℕ
Blocks (two P Q) = ℕ × ℕ

abbrev pub env : (X : Extra) → Blocks X → List (Ty × ℕ) → List (Ty × ℕ)
env none bs E = E
env (one P) bs E = (P.mir, bs) ∷ E
env (two P Q) bs E = (P.mir, bs.0) ∷ (Q.mir, bs.1) ∷ E

module _ {M : Type 1} (𝓤 : Ura M) (H : Heap 𝓤) where
  -- the first of them is local i
  abbrev pub Spots : (X : Extra) → Env 𝓤 H → ℕ → Blocks X → Type 0
  Spots none E i bs = Unit {0}
  Spots (one P) E i bs = spot_of 𝓤 H E i ≡ (P.mir, bs, 0)
  Spots (two P Q) E i bs = (spot_of 𝓤 H E i ≡ (P.mir, bs.0, 0)) × (spot_of 𝓤 H E (suc i) ≡ (Q.mir, bs.1, 0))

  -- they stand behind the locals es
  pub spots : (X : Extra) (bs : Blocks X) (es E : Env 𝓤 H) → Spots X (es ++ env X bs E) (length es) bs
  spots none bs es E = tt
  spots (one P) bs [] E = refl
  spots (one P) bs (e ∷ es) E = spots (one P) bs es E
  spots (two P Q) bs [] E = (refl, refl)
  spots (two P Q) bs (e ∷ es) E = spots (two P Q) bs es E

  -- the locals behind them
  pub behind : (X : Extra) (bs : Blocks X) (E : Env 𝓤 H) (i : ℕ) → spot_of 𝓤 H (env X bs E) (beyond X i) ≡ spot_of 𝓤 H E
      i
  behind none bs E i = refl
  behind (one P) bs E i = refl
  behind (two P Q) bs E i = refl

module _ {M : Type 1} {𝓤 : Ura M} where
  abbrev room : Plain → ℕ → Item 𝓤
  room P b = ‵ (froom P.mir b 0) ⊛ ‵ (fdies P.mir b)

  abbrev cell : (P : Plain) → ℕ → P.row.Denot → Item 𝓤
  cell P b x = ‵ (fat full_share P.mir b 0 (P.val x)) ⊛ ‵ (fdies P.mir b)

  abbrev pub Rooms : (X : Extra) → Blocks X → Item 𝓤
  Rooms none bs = ‵ ftrue
  Rooms (one P) bs = room P bs
  Rooms (two P Q) bs = room P bs.0 ⊛ room Q bs.1

  abbrev pub Cells : (X : Extra) → Blocks X → Values X → Item 𝓤
  Cells none bs x = ‵ ftrue
  Cells (one P) bs x = cell P bs x
  Cells (two P Q) bs x = cell P bs.0 x.0 ⊛ cell Q bs.1 x.1

module _ {M : Type 1} {𝓤 : Ura M} (𝓛 : Logic 𝓤) where
  -- they are allocated, passed, read and freed
  open 𝓛 use {H}

  pub allocs-extra :
      (X : Extra) {Γ : List (Item 𝓤)} {ls : List Local} {Kt : Env 𝓤 H → Goal 𝓤 H} →
      ((bs : Blocks X) → Sq 𝓛 (Rooms X bs ∷ Γ) (allocs ls (λ E. Kt (env X bs E)))) → Sq 𝓛 Γ (allocs (locals X ls) Kt)
  allocs-extra none k = nothing ! $ k tt
  allocs-extra (one P) k = alloc1 ! (λ b. join ! $ k b)
  allocs-extra (two P Q) k = alloc1 ! (λ b. alloc1 ! (λ c. join ! $ move ! (1 ∷ 2 ∷ []) $ join ! $ join ! $ k (b, c)))

  module _ (n : ℕ) (κs : Lfts n) where
    pub passes-extra :
        (X : Extra) (bs : Blocks X) (a : Denots (rows n κs X)) → Knowns X (out n κs X a) → (E : Env 𝓤 H)
        {Γ : List (Item 𝓤)} {G : Goal 𝓤 H} → Step (Go {0}) 𝓛 (Cells X bs (out n κs X a) ∷ Γ) G (Rooms X bs ∷ Γ)
        (passes (env X bs E) (flat (rows n κs X) (valss (rows n κs X) (spells n κs X) a)) G)
    passes-extra none bs a is E = step (λ s. pass0 ! $ s)
    passes-extra (one P) bs a is E = step (λ s.
        split ! $ pass1 ! (init ! 0 refl (P.typed 𝓛 a.0 _ is)) $ pass0 ! $ join ! $ s)
    passes-extra (two P Q) bs a is E = step (λ s.
        split ! $ split ! $ pass1 ! (init ! 0 refl (P.typed 𝓛 a.0 _ is.0)) $ move ! (2 ∷ []) $ split ! $
        pass1 ! (init ! 0 refl (Q.typed 𝓛 a.1.0 _ is.1)) $ pass0 ! $ join ! $ move ! (1 ∷ 2 ∷ []) $
        join ! $ join ! $ s)

  pub frees-extra :
      (X : Extra) (bs : Blocks X) (x : Values X) {Γ : List (Item 𝓤)} {E : Env 𝓤 H} {G : Goal 𝓤 H} →
      Step (Go {0}) 𝓛 Γ (frees E G) (Cells X bs x ∷ Γ) (frees (env X bs E) G)
  frees-extra none bs x = step (λ s. drop ! $ s)
  frees-extra (one P) bs x = step (λ s. split ! $ gone ! 0 refl refl $ s)
  frees-extra (two P Q) bs x = step (λ s.
      split ! $ split ! $ gone ! 0 refl refl $ split ! $ gone ! 0 refl refl $ s)

  -- entry m of the context is what they hold
  module _ (n : ℕ) (κs : Lfts n) {Γ : List (Item 𝓤)} {E : Env 𝓤 H} (i m : ℕ) where
    pub reads-extra :
        (X : Extra) (bs : Blocks X) (x : Values X) → nth 𝓛 m Γ ≡ Cells X bs x → Spots 𝓤 H X E i bs →
        Opds (Go {0}) 𝓛 Γ E (operands X i) (flat (rows n κs X) (valss (rows n κs X) (spells n κs X) (args n κs X x)))
    reads-extra none bs x e s = no_more !
    reads-extra (one P) bs x e s =
        and_then ! (load ! (within ! s (stop !)) (look_in ! m (found e (here (whole !))))) (no_more !)
    reads-extra (two P Q) bs x e s =
        and_then ! (load ! (within ! s.0 (stop !)) (look_in ! m (found e (here (here (whole !))))))
        (and_then ! (load ! (within ! s.1 (stop !)) (look_in ! m (found e (there (here (whole !)))))) (no_more !))
