-- What a reader owns, for the walks of the functions over one: it is made of a row and a cursor, its row is lent for a
-- call and comes back, and another cursor is put in the place of its own.
use mathlib.Core.Path.{◌≡◌, refl}
use Prim.Native.Nat.{ℕ, ◌+◌}
use mathlib.Core.List.{List, [], ◌∷◌}
use seplogic.Ra.Ura.{Ura}
use base.Fraction.{full_share}
use lib.Dec.{T}
use mir.Syntax.{Lifetime, named, erased}
use mir.Val.{Val, WT, has_ty}
use base.Logic.{ent, sep, ex}
use base.Stored.{Gv}
use base.Fml.{Lft, GName, Share, Fml, flft, fobs, fauth, fbor, fobor}
use contract.BorrowLft.{⊑_refl}
use prog.Memory.{align, up}
use types.Logic.{Logic, sem}
use types.Kit.{Goal, Soaks, Step, step, Item, ‵, raw, ◌⊛◌, ⋆, some, later, given, ◌$◌, ◌∵◌, !, qed, by, move}
use types.Kit.{use1}
use types.Kit.{use2, use3, split, join, pick, await, updating, now as at_once, show, mean, learn, frame, done}
use types.SemTy.{Body}
use denote.RattleType.{RattleType, owns}
use denote.Laws.{Is}
use denote.Memory.{mem, part_at, part_of}
use denote.Ref.{NamedLft}
use denote.Shares.{Shares-less}
use denote.Steps.{owned}
use denote.Struct.Declared.{Declared}
use denote.Struct.Laws as LL
use denote.Struct.Members.{Member}
use denote.Struct.Parts.{PartsBack}
use denote.Struct.Pick.{rest_at, record_field_out, record_field_back}
use denote.Struct.Rest.{own_open, own_shut, own_put}
use denote.Struct.Values.{Values}
use Rattle.walks.proofs.Lent.{ShrAt, Short, Long, SharedAt, KeptAt, shares-at, back-at}
use Rattle.walks.proofs.Whole.{Whole, Cell, lies_in, lies_out, closes-whole}
use Rattle.codes.specs.declared.TokenId.{TokenId}
use Rattle.codes.specs.contracts.TokenId as I
use Rattle.codes.proofs.TokenId.TheLaws as I'
use Rattle.tokens.specs.contracts.Row as R
use Rattle.tokens.proofs.Row.TheLaws as R'
use Rattle.reader.specs.declared.Tokens.{Tokens}
use Rattle.reader.specs.Answer.{moved}
use Rattle.reader.specs.contracts.Tokens as K
use Rattle.reader.proofs.Tokens.TheLaws as K'

-- 'a of a reader that is lent for 's, and the reader's type and its row's at it
abbrev pub α : Lft → NamedLft
α κ = record { mir = named 1; lft = κ }

abbrev pub B : Lft → RattleType
B κ = K.the_row (α κ)

abbrev pub D : Lft → Declared
D κ = K.the_type (α κ)

abbrev pub L : (κ : Lft) → LL.Laws (D κ)
L κ = K'.the_laws (α κ)

abbrev pub RowAt : Lft → RattleType
RowAt κ = R.the_row (α κ)

abbrev fields : (κ : Lft) → Tokens → Values (D κ).parts
fields κ h = (h.row, (h.cursor, tt))

-- the machine values of the reader and of its row
abbrev pub mach : Tokens → Val
mach h = K'.lowered h

abbrev pub row : Tokens → Val
row h = R'.lowered h.row

-- a reader as the walks of crate walks have it
abbrev pub reader : Lft → Whole
reader κ = record { row = B κ; mir = K'.mir erased; one = refl; val = mach; tells = LL.tells (D κ) (L κ) }

abbrev pub Own : Lft → Tokens → Fml
Own κ h = (B κ).own_val h (mach h ∷ [])

-- what the row and the cursor own as parameters
abbrev pub values : Tokens → List Val × (List Val × Unit {0})
values h = (row h ∷ [], (I'.lowered h.cursor ∷ [], tt))

abbrev pub Params : Lft → Tokens → Fml
Params κ h = owns (RowAt κ ∷ I.the_row ∷ []) (h.row, (h.cursor, tt)) (values h)

-- its cursor has the cursor's machine value
pub cursor-is : (κ : Lft) (h : Tokens) → Is (B κ) h (mach h ∷ []) → Is I.the_row h.cursor (I'.lowered h.cursor ∷ [])
cursor-is κ h is = (LL.owed (D κ) (L κ) h _ is).1.0

module _ {M : Type 1} {𝓤 : Ura M} (𝓛 : Logic 𝓤) (κ : Lft) (h : Tokens) where
  -- its cursor is of its type
  pub cursor-typed : Is (B κ) h (mach h ∷ []) → WT (I'.lowered h.cursor)
  cursor-typed is = ((LL.lawful (D κ) (L κ) 𝓛).typed h _ is).0.1.1.0

  -- its row is of its type, whatever the lifetime is called
  pub row-typed : (a : Lifetime) → Is (RowAt κ) h.row (row h ∷ []) → T (has_ty (R'.mir a) (row h)) × WT (row h)
  row-typed a is =
      ((LL.lawful (R.the_type (record { mir = a; lft = κ })) (R'.the_laws (record { mir = a; lft = κ })) 𝓛).typed h.row
      _ is).0

  -- what a row and a cursor own as parameters is what a reader of them owns, and is had twice
  pub made : ent 𝓤 (sem 𝓛 (Params κ h)) (sem 𝓛 (Own κ h))
  made = own_shut 𝓛 (D κ) (L κ) (fields κ h)

  unmade : ent 𝓤 (sem 𝓛 (Own κ h)) (sem 𝓛 (Params κ h))
  unmade =
      qed 𝓛 (‵ (Own κ h) ∷ []) ∵
      use1 𝓛 (given (mach h ∷ [] ≡ mach h ∷ []) (‵ (Params κ h))) (own_open 𝓛 (D κ) (L κ) (fields κ h)
      (mach h)) $ learn ! (λ _. done !)

  both : ent 𝓤 (sem 𝓛 (Own κ h)) (sep 𝓤 (sem 𝓛 (Own κ h)) (sem 𝓛 (Own κ h)))
  both = (LL.copy (D κ) (K'.the_copy (α κ)) 𝓛).twice h (mach h ∷ [])

  pub twice : ent 𝓤 (sem 𝓛 (Params κ h)) (sep 𝓤 (sem 𝓛 (Params κ h)) (sem 𝓛 (Params κ h)))
  twice =
      qed 𝓛 (‵ (Params κ h) ∷ []) ∵ use1 𝓛 (‵ (Own κ h)) made $ use1 𝓛 (‵ (Own κ h) ⊛ ‵ (Own κ h)) both $ split ! $
      use1 𝓛 (‵ (Params κ h)) unmade $ frame ! $ by ! unmade

  -- the reader from the cursor c on
  pub put-cursor :
      (c : TokenId) → Is I.the_row c (I'.lowered c ∷ []) →
      ent 𝓤 (sem 𝓛 (Own κ h)) (sem 𝓛 (Own κ (moved h c)))
  put-cursor c is =
      qed 𝓛 (‵ (Own κ h) ∷ []) ∵
      owned ! I.the_row (Is I.the_row) (LL.makes I.the_type I'.the_plain 𝓛) c _ is $ move ! (1 ∷ 0 ∷ []) $
      by ! (own_put 𝓛 (D κ) (L κ) 1 (fields κ h) c (mach h))

-- the fields of a reader that lies in memory, and where the first of them lies
abbrev members : Lft → List Member
members κ =
    record { row = (R.the_field (α κ)).row; ty = R'.mir (named 1) } ∷ record { row = (I.the_field).row; ty = I'.mir } ∷ []

abbrev pub row_at : ℕ → ℕ
row_at o = o + up (align (R'.mir (named 1))) 0

-- The row of a reader is lent by `&` for a call, for the meet of κ and a lifetime ν of the call, and comes back.
module _ {M : Type 1} {𝓤 : Ura M} (𝓛 : Logic 𝓤) (κ : Lft) (q : Share) (h : Tokens) (b o : ℕ) where
  open 𝓛 use {H}

  -- what is had of the reader meanwhile
  abbrev Rest : Item 𝓤
  Rest = ‵ (rest_at full_share (members κ) 0 ((D κ).to h) b o 0) ⊛ raw (PartsBack 𝓛 full_share [] (members κ) b o)

  abbrev pub KeptRow : ℕ → Item 𝓤
  KeptRow ν = KeptAt (RowAt κ) h.row b (row_at o) κ q 𝓛 ν ⊛ Rest

  abbrev pub RowLent : ℕ → Item 𝓤
  RowLent ν = ‵ (ShrAt (RowAt κ) h.row b (row_at o) (ν ∷ κ)) ⊛ ‵ (Short κ q ν) ⊛ ‵ (Long κ q) ⊛ KeptRow ν

  abbrev Whole-reader : List (Item 𝓤)
  Whole-reader = ‵ (Cell (reader κ) full_share h b o) ∷ ‵ (Own κ h) ∷ ‵ (flft κ q) ∷ []

  pub lends-row : ent 𝓤 (⋆ 𝓛 Whole-reader) (H.⇛ (ex 𝓤 (λ (ν : ℕ). mean 𝓛 (RowLent ν))))
  unfolding part_of
  lends-row =
      qed 𝓛 Whole-reader ∵ updating ! $
      use2 𝓛 (‵ (part_at (B κ) full_share h b o)) (lies_in (reader κ) 𝓛 h b o) $
      use1 𝓛 (‵ (part_at (RowAt κ) full_share h.row b (row_at o)) ⊛ Rest) (record_field_out 𝓛 full_share [] (members κ)
      Tokens (D κ).to (D κ).to_one (LL.lawfuls 𝓛 (D κ).parts (L κ)) h b o 0) $ split ! $
      -- [the row; the rest; κ's token]
      move ! (0 ∷ 2 ∷ []) $
      use2 𝓛 (later (some (λ (ν : ℕ). SharedAt (RowAt κ) h.row b (row_at o) κ q 𝓛 ν))) (shares-at (RowAt κ) h.row b
      (row_at o) κ q 𝓛 (Shares-less 𝓛 (RowAt κ) (RowAt κ).lives κ (R'.the_within (α κ) κ (⊑_refl κ))
      ((R'.the_row_laws (α κ)).shares 𝓛) h.row)) $ await ! tt $ pick ! (λ ν. split ! $
      move ! (1 ∷ []) $ split ! $ move ! (1 ∷ []) $ split ! $
      -- [the other half of the token; what is kept of the row; a half of the token; the reference; the rest]
      move ! (1 ∷ 4 ∷ []) $ join ! $
      at_once ! $ show ! (λ (ν : ℕ). mean 𝓛 (RowLent ν)) ν $ move ! (3 ∷ 2 ∷ 1 ∷ 0 ∷ []) $ done !)

  pub row_back : (ν : ℕ) → ent 𝓤 (⋆ 𝓛 (‵ (Short κ q ν) ∷ ‵ (Long κ q) ∷ KeptRow ν ∷ [])) (H.⇛ (⋆ 𝓛 Whole-reader))
  unfolding part_of
  row_back ν =
      qed 𝓛 (‵ (Short κ q ν) ∷ ‵ (Long κ q) ∷ KeptRow ν ∷ []) ∵ updating ! $ move ! (2 ∷ []) $ split ! $
      -- [what is kept of the row; the rest; the halves of the token]
      move ! (2 ∷ 3 ∷ 0 ∷ []) $
      use3 𝓛 (later (‵ (part_at (RowAt κ) full_share h.row b (row_at o)) ⊛ ‵ (flft κ q))) (back-at (RowAt κ) h.row b
      (row_at o) κ q 𝓛 ν) $ await ! tt $ split ! $
      -- [the row; κ's token; the rest]
      move ! (0 ∷ 2 ∷ []) $
      use2 𝓛 (‵ (part_at (B κ) full_share h b o)) (record_field_back 𝓛 full_share [] (members κ) Tokens (D κ).to
      (D κ).to_one h b o 0) $
      use1 𝓛 (‵ (Cell (reader κ) full_share h b o) ⊛ ‵ (Own κ h)) (lies_out (reader κ) 𝓛 h b o) $ split ! $
      at_once ! $ done !

-- the borrow of a reader is closed at another cursor
module _ {M : Type 1} {𝓤 : Ura M} {𝓛 : Logic 𝓤} {K : Type 0} {Γ : List (Item 𝓤)}
    {G : Goal 𝓤 𝓛.H} where
  pub closes-reader :
      K → Soaks G → {κ : Lft} (κ' : Lft) {q : Share} (h : Tokens) (c : TokenId) → Is I.the_row c (I'.lowered c ∷ []) →
      {u v : Gv} {γ : GName} (b o : ℕ) →
      Step K 𝓛 (‵ (fobs γ ((B κ').coded.code (moved h c))) ∷ ‵ (fbor κ (Body (mem (B κ')) b o γ)) ∷ ‵ (flft κ q) ∷
      Γ) G
      (‵ (Cell (reader κ') full_share (moved h c) b o) ∷ ‵ (Own κ' h) ∷ ‵ (fobor κ q (Body (mem (B κ')) b o γ)) ∷
      ‵ (fobs γ u)
      ∷ ‵ (fauth γ v) ∷ Γ) G
  closes-reader t z κ' h c is b o = step (λ s.
      move t (1 ∷ []) $ use1 𝓛 (‵ (Own κ' (moved h c))) (put-cursor 𝓛 κ' h c is) $ move t (1 ∷ 0 ∷ []) $
      closes-whole t z (reader κ') (moved h c) b o $ s)
