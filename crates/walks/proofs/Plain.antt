-- A type that owns only facts, as a walk uses one that it does not name: a number, a struct or an enum of those, and an
-- Option or a Result of them. And a struct of two fields of such types.
use mathlib.Core.Path.{◌≡◌, refl, sym, subst}
use mathlib.Core.List.{List, [], ◌∷◌}
use seplogic.Ra.Ura.{Ura}
use lib.Dec.{T}
use mir.Syntax.{Ty, Width, Sym, ty_int, ty_bool, ty_struct, tcons, tnil}
use mir.Val.{Val, vint, vbool, vstruct, vcons, vnil, has_ty, WT}
use base.Fml.{ftrue}
use types.Logic.{Logic}
use denote.Exit.{Kept, Exit, unchanged, Last, left}
use denote.RattleType.{RattleType}
use denote.Laws.{Is, Tells, Makes}
use denote.Plain.{UInt, Boolean, uint_Tells, uint_Lawful, uint_Makes, bool_Tells, bool_Lawful, bool_Makes}
use denote.Struct.Struct.{Plains, layout}
use denote.Struct.Declared as S
use denote.Struct.Laws as LL
use denote.Enum.Enum.{Few, Plainss, layout as enumLayout}
use denote.Enum.Declared as E
use denote.Enum.Laws as EL
use denote.Param.Laws.{Laws, Told, IsCopy, of_field, field_told, of_copyable}
use denote.Param.Plain.{IsPlain}
use denote.Param.Shared.{copy_shared}
use denote.Struct.Field.{unit-field}
use denote.Struct.Laws.{unit-laws, unit-copy, unit-plain}
use Rattle.std.specs.Prelude.{Some, Ok, Err}
use Rattle.std.specs.contracts.option.Option as O
use Rattle.std.proofs.option.Option.TheLaws as O'
use Rattle.std.specs.contracts.result.Result as Q
use Rattle.std.proofs.result.Result.TheLaws as Q'

-- the machine value of each value, that it can be no other and is of the type, and that a value is owned for nothing
-- and is at a function's exit what it was
pub record Plain : Type 2 where
  pub row : RattleType
  pub mir : Ty
  pub val : row.Denot → Val
  pub tells : Tells row (Is row) (λ x. val x ∷ [])
  pub typed : {M : Type 1} {𝓤 : Ura M} (𝓛 : Logic 𝓤) → (x : row.Denot) (v : Val) →
      Is row x (v ∷ []) → T (has_ty mir v) × WT v
  pub makes : {M : Type 1} {𝓤 : Ura M} (𝓛 : Logic 𝓤) → Makes 𝓛 row (Is row)
  pub still : (k : Kept) → row.exit k ≡ unchanged

abbrev pub number : Width → Plain
number w = record {
  row = UInt w;
  mir = ty_int w;
  val = vint w;
  tells = uint_Tells w;
  typed = λ 𝓛 x v is. ((uint_Lawful 𝓛 w).typed x (v ∷ []) is).0;
  makes = λ 𝓛. uint_Makes 𝓛 w;
  still = λ k. refl;
}

abbrev pub truth : Plain
truth = record {
  row = Boolean;
  mir = ty_bool;
  val = vbool;
  tells = bool_Tells;
  typed = λ 𝓛 x v is. ((bool_Lawful 𝓛).typed x (v ∷ []) is).0;
  makes = λ 𝓛. bool_Makes 𝓛;
  still = λ k. refl;
}

abbrev pub struct : (D : S.Declared) → LL.Laws D → Plains (S.fields D) → LL.Copyables D.parts → Plain
struct D L plains copies = record {
  row = S.row D;
  mir = layout (S.shape D);
  val = LL.val D L;
  tells = LL.tells D L;
  typed = λ 𝓛 x v is. ((LL.lawful D L 𝓛).typed x (v ∷ []) is).0;
  makes = λ 𝓛. LL.makes D plains 𝓛;
  still = LL.still D copies;
}

abbrev pub enum : (D : E.Declared) → EL.Laws D → Few (E.shape D) → Plainss (E.variants D) → EL.Copyabless D.parts →
    Plain
enum D L few plains copies = record {
  row = E.row D;
  mir = enumLayout (E.shape D);
  val = EL.val D L;
  tells = EL.tells D L;
  typed = λ 𝓛 x v is. ((EL.lawful D L 𝓛 few).typed x (v ∷ []) is).0;
  makes = λ 𝓛. EL.makes D plains 𝓛;
  still = EL.still D copies;
}

-- of a value that is at exit what it was: what is bound there, and that nothing is said of it
still-last : {D : Type 0} {e : Exit D} → e ≡ unchanged → (x : D) → Last e x
still-last {D} q x = subst (λ (e : Exit D). Last e x) (sym q) tt

still-left : {D : Type 0} {e : Exit D} → e ≡ unchanged → (x : D) (f : Last e x) → left e x f ≡ ftrue
still-left {D} q = subst (λ (e : Exit D). (x : D) (f : Last e x) → left e x f ≡ ftrue) (sym q) (λ x f. refl)

module _ (P : Plain) where
  pub last : (k : Kept) (x : P.row.Denot) → Last (P.row.exit k) x
  last k = still-last (P.still k)

  -- a value that has machine values has its own
  pub sure : (x : P.row.Denot) (vs : List Val) → Is P.row x vs → Is P.row x (P.val x ∷ [])
  sure x vs is = subst (λ (us : List Val). Is P.row x us) (P.tells x vs is) is

  pub silent : (k : Kept) (x : P.row.Denot) (f : Last (P.row.exit k) x) → left (P.row.exit k) x f ≡ ftrue
  silent k = still-left (P.still k)

-- a struct of two fields: its parts are of their types, and of two such parts it is made
pub record Pair (F G : Plain) : Type 2 where
  pub name : Sym
  pub row : RattleType
  pub fst : row.Denot → F.row.Denot
  pub snd : row.Denot → G.row.Denot
  pub make : F.row.Denot → G.row.Denot → row.Denot
  pub made : (x : F.row.Denot) (y : G.row.Denot) (Q : F.row.Denot → G.row.Denot → Type 0) → Q x y →
      Q (fst (make x y)) (snd (make x y))
  pub tells : Tells row (Is row) (λ s. vstruct (vcons (F.val (fst s)) (vcons (G.val (snd s)) vnil)) ∷ [])
  pub parts : (s : row.Denot) (vs : List Val) → Is row s vs → Is F.row (fst s) (F.val (fst s) ∷ []) × Is G.row
      (snd s) (G.val (snd s) ∷ [])
  pub whole : (x : F.row.Denot) (y : G.row.Denot) → Is F.row x (F.val x ∷ []) → Is G.row y (G.val y ∷ []) →
      Is row (make x y) (vstruct (vcons (F.val x) (vcons (G.val y) vnil)) ∷ [])
  pub typed : {M : Type 1} {𝓤 : Ura M} (𝓛 : Logic 𝓤) → (s : row.Denot) (v : Val) →
      Is row s (v ∷ []) → T (has_ty (ty_struct name (tcons F.mir (tcons G.mir tnil))) v) × WT v
  pub makes : {M : Type 1} {𝓤 : Ura M} (𝓛 : Logic 𝓤) → Makes 𝓛 row (Is row)

module _ {F G : Plain} (S : Pair F G) where
  abbrev pub mir_of : Ty
  mir_of = ty_struct S.name (tcons F.mir (tcons G.mir tnil))

  abbrev pub val_of : F.row.Denot → G.row.Denot → Val
  val_of x y = vstruct (vcons (F.val x) (vcons (G.val y) vnil))

-- a type that owns only facts, as an argument of a generic type
pub record Argument : Type 2 where
  pub row : RattleType
  pub laws : Laws row
  pub told : Told row
  pub plain : IsPlain row
  pub copy : IsCopy row

abbrev pub nothing : Argument
nothing = record {
  row = unit-field.row;
  laws = of_field unit-field unit-laws refl (copy_shared unit-field unit-copy);
  told = field_told unit-field unit-laws;
  plain = unit-plain;
  copy = of_copyable unit-field unit-copy;
}

-- such values of the generic types of std, and their cases
module _ (A : Argument) where
  abbrev D-option : E.Declared
  D-option = O.the_type A.row

  abbrev L-option : EL.Laws D-option
  L-option = O'.the_laws A.row A.laws A.told

  abbrev pub option : Plain
  option = enum D-option L-option tt (O'.the_plain A.row A.plain) (O'.the_copy A.row A.laws A.copy)

  abbrev pub option-of : Argument
  option-of = record {
    row = option.row;
    laws = O'.the_row_laws A.row A.laws;
    told = O'.the_told A.row A.laws A.told;
    plain = O'.the_row_plain A.row A.plain;
    copy = O'.the_row_copy A.row A.laws A.copy;
  }

  pub owed-some : (x : A.row.Denot) (vs : List Val) → Is option.row (Some x) vs → Is A.row x (A.told.val x ∷ [])
  owed-some x vs is = (EL.owed D-option L-option (Some x) vs is).0

  module _ (B : Argument) where
    abbrev D-result : E.Declared
    D-result = Q.the_type A.row B.row

    abbrev L-result : EL.Laws D-result
    L-result = Q'.the_laws A.row B.row A.laws B.laws A.told B.told

    abbrev pub result : Plain
    result =
        enum D-result L-result tt (Q'.the_plain A.row B.row A.plain B.plain)
        (Q'.the_copy A.row B.row A.laws B.laws A.copy B.copy)

    pub owed-ok : (x : A.row.Denot) (vs : List Val) → Is result.row (Ok x) vs → Is A.row x (A.told.val x ∷ [])
    owed-ok x vs is = (EL.owed D-result L-result (Ok x) vs is).0

    pub owed-err : (y : B.row.Denot) (vs : List Val) → Is result.row (Err y) vs → Is B.row y (B.told.val y ∷ [])
    owed-err y vs is = (EL.owed D-result L-result (Err y) vs is).0

    pub owes-ok : (x : A.row.Denot) → Is A.row x (A.told.val x ∷ []) → Is result.row (Ok x) (result.val (Ok x) ∷ [])
    owes-ok x is = EL.owes D-result L-result (Ok x) (is, tt)

    pub owes-err : (y : B.row.Denot) → Is B.row y (B.told.val y ∷ []) → Is result.row (Err y) (result.val (Err y) ∷ [])
    owes-err y is = EL.owes D-result L-result (Err y) (is, tt)
