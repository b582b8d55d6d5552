-- The record of the node count and the open list, and the words, as the walks have them.
use mathlib.Core.Path.{◌≡◌, refl}
use Prim.Native.Nat.{ℕ}
use mathlib.Core.List.{List, [], ◌∷◌}
use lib.ListN.{length}
use seplogic.Ra.Ura.{Ura}
use base.Fraction.{full_share}
use lib.Dec.{T}
use mir.Syntax.{Lifetime, Ty, ty_ref, erased, mut, w32, deref, field, place, copy, addr_of, aggregate}
use mir.Syntax.{Body as Code, seq, assign}
use mir.Val.{Val, vptr, has_ty, WT}
use base.Fml.{Lft, Fml, fsep, feq, fat, fbor, froom}
use prog.Wp.{Env, Calls, Loops, spot_of}
use types.Logic.{Logic}
use types.Kit.{Item, Goal, Post, Seq, Step, step, runs, nth, put, ‵, ◌$◌, move, fsplit, fjoin, feq_l}
use types.Hole.{Holey}
use types.SemTy.{Arr, Body}
use types.Part.{agg, whole, sub, look_in}
use types.Run.{look, init, stop, hop, fld, load, addr, and_then, no_more, assigns}
use denote.Builtin.{u32}
use denote.Laws.{Is}
use denote.Memory.{mem}
use denote.Ref.{MutBor}
use denote.Slice.{slice_val, slice_ty, finally}
use denote.Struct.Laws as LL
use Rattle.walks.proofs.Operands.{within, found}
use Rattle.walks.proofs.Plain.{Plain, Argument, number, struct, enum, result}
use Rattle.walks.proofs.Whole.{Whole}
use Rattle.codes.specs.declared.Read.{Read}
use Rattle.codes.specs.contracts.TokenId as I
use Rattle.codes.proofs.TokenId.TheLaws as I'
use Rattle.codes.specs.contracts.NodeId as N
use Rattle.codes.proofs.NodeId.TheLaws as N'
use Rattle.codes.specs.contracts.Read as D
use Rattle.codes.proofs.Read.TheLaws as D'
use Rattle.codes.specs.contracts.ParsingError as X
use Rattle.codes.proofs.ParsingError.TheLaws as X'
use Rattle.nodes.specs.contracts.ActiveList as A
use Rattle.nodes.proofs.ActiveList.TheLaws as A'
use Rattle.buffer.specs.declared.ParseBuffer.{ParseBuffer}
use Rattle.buffer.specs.contracts.ParseBuffer as P
use Rattle.buffer.proofs.ParseBuffer.TheLaws as P'

-- the record, behind a reference and by value
abbrev pub buffer : Whole
buffer = record {
  row = P.the_row;
  mir = P'.mir;
  one = refl;
  val = LL.val P.the_type P'.the_laws;
  tells = LL.tells P.the_type P'.the_laws;
}

abbrev pub B : Plain
B = struct P.the_type P'.the_laws P'.the_plain P'.the_copy

-- the machine value of the words
abbrev pub column : MutBor (List ℕ) → Val
column x = slice_val x.ref_ptr (length x.now)

-- what is had of the words x, lent at κ, where they are given up: their last list, and the borrow
abbrev pub Gone : Lft → MutBor (List ℕ) → List ℕ → Fml
Gone κ x ws =
    fsep (finally u32 x.ghost_name ws) (fbor κ (Body (Arr (Holey (mem u32)) (length x.now)) x.ref_ptr.0 x.ref_ptr.1
    x.ghost_name))

abbrev pub cursor : Plain
cursor = struct I.the_type I'.the_laws I'.the_plain I'.the_copy

abbrev pub word : Plain
word = number w32

abbrev pub parsing-error : Argument
parsing-error = record {
  row = X.the_row;
  laws = X'.the_row_laws;
  told = X'.the_told;
  plain = X'.the_row_plain;
  copy = X'.the_row_copy;
}

abbrev pub node-id : Argument
node-id = record {
  row = N.the_row;
  laws = N'.the_row_laws;
  told = N'.the_told;
  plain = N'.the_row_plain;
  copy = N'.the_row_copy;
}

abbrev pub list-of : Argument
list-of = record {
  row = A.the_row;
  laws = A'.the_row_laws;
  told = A'.the_told;
  plain = A'.the_row_plain;
  copy = A'.the_row_copy;
}

abbrev pub list : Plain
list = enum A.the_type A'.the_laws tt A'.the_plain A'.the_copy

-- what is read, with the cursor and the count, and the answer of a function that reads it
module _ (T : Argument) where
  abbrev pub read : Plain
  read = struct (D.the_type T.row) (D'.the_laws T.row T.laws T.told) (D'.the_plain T.row T.plain)
      (D'.the_copy T.row T.laws T.copy)

  abbrev pub read-of : Argument
  read-of = record {
    row = D.the_row T.row;
    laws = D'.the_row_laws T.row T.laws;
    told = D'.the_told T.row T.laws T.told;
    plain = D'.the_row_plain T.row T.plain;
    copy = D'.the_row_copy T.row T.laws T.copy;
  }

  abbrev pub answer : Plain
  answer = result read-of parsing-error

  -- its parts are of their types
  pub read-count : (v : Read T.row.Denot) → Is read.row v (read.val v ∷ []) →
      Is word.row v.count (word.val v.count ∷ [])
  read-count v is = (LL.owed (D.the_type T.row) (D'.the_laws T.row T.laws T.told) v _ is).1.0

  pub read-value : (v : Read T.row.Denot) → Is read.row v (read.val v ∷ []) → Is T.row v.value (T.told.val v.value ∷ [])
  read-value v is = (LL.owed (D.the_type T.row) (D'.the_laws T.row T.laws T.told) v _ is).1.1.0

-- the parts of a record are of their types, and of such parts it is made
pub count-is : (b : ParseBuffer) → Is P.the_row b (B.val b ∷ []) → Is word.row b.count (word.val b.count ∷ [])
count-is b is = (LL.owed P.the_type P'.the_laws b _ is).0

pub list-is : (b : ParseBuffer) → Is P.the_row b (B.val b ∷ []) → Is list.row b.list (list.val b.list ∷ [])
list-is b is = (LL.owed P.the_type P'.the_laws b _ is).1.0

pub record-is : (b : ParseBuffer) → Is word.row b.count (word.val b.count ∷ []) →
    Is list.row b.list (list.val b.list ∷ []) → Is P.the_row b (B.val b ∷ [])
record-is b n l = LL.owes P.the_type P'.the_laws b (n, (l, tt))

module _ {M : Type 1} {𝓤 : Ura M} {𝓛 : Logic 𝓤} {K : Type 0} {Γ : List (Item 𝓤)} where
  -- The words in the local s are lent again: their pointer goes to the local a, and the slice made of that to the local
  -- b. The locals are entries i, j and k of the context.
  open 𝓛 use {H}

  pub relends :
      K → (x : MutBor (List ℕ)) (i j k : ℕ) {C : Calls 𝓤 H} {Λ : Loops 𝓤 H} {q : Post 𝓤 H} {E : Env 𝓤 H} {rest : Code}
      {s a b l m n : ℕ} {ℓ : Lifetime} {τ : Ty} → spot_of 𝓤 H E s ≡ (slice_ty (ty_ref ℓ mut τ), l, 0) →
      spot_of 𝓤 H E a ≡ (ty_ref erased mut τ, m, 0) → spot_of 𝓤 H E b ≡ (slice_ty (ty_ref erased mut τ), n, 0) →
      nth 𝓛 i Γ ≡ ‵ (fat full_share (slice_ty (ty_ref ℓ mut τ)) l 0 (column x)) →
      nth 𝓛 j Γ ≡ ‵ (froom (ty_ref erased mut τ) m 0) →
      nth 𝓛 i (put 𝓛 j (‵ (fat full_share (ty_ref erased mut τ) m 0 (vptr x.ref_ptr.0 x.ref_ptr.1))) Γ) ≡ ‵ (fat
      full_share (slice_ty (ty_ref ℓ mut τ)) l 0 (column x)) →
      nth 𝓛 j (put 𝓛 j (‵ (fat full_share (ty_ref erased mut τ) m 0 (vptr x.ref_ptr.0 x.ref_ptr.1))) Γ) ≡ ‵ (fat
      full_share (ty_ref erased mut τ) m 0 (vptr x.ref_ptr.0 x.ref_ptr.1)) →
      nth 𝓛 k (put 𝓛 j (‵ (fat full_share (ty_ref erased mut τ) m 0 (vptr x.ref_ptr.0 x.ref_ptr.1))) Γ) ≡ ‵ (froom
      (slice_ty (ty_ref erased mut τ)) n 0) → T (has_ty (slice_ty (ty_ref erased mut τ)) (column x)) × WT (column x) →
      Step K 𝓛 (put 𝓛 k (‵ (fat full_share (slice_ty (ty_ref erased mut τ)) n 0 (column x))) (put 𝓛 j (‵ (fat
      full_share (ty_ref erased mut τ) m 0 (vptr x.ref_ptr.0 x.ref_ptr.1))) Γ)) (runs C Λ E rest q) Γ
      (runs C Λ E (seq (assign (place a []) (addr_of (place s (field 0 ∷ deref τ ∷ [])))) (seq (assign (place b [])
      (aggregate (copy (place a []) ∷ copy (place s (field 1 ∷ [])) ∷ []))) rest)) q)
  relends t x i j k eₛ eₐ e n₁ n₂ n₃ n₄ n₅ typed = step (λ z.
      assigns t (addr t (within t eₛ (fld t refl (hop t (look_in t i (found n₁ (sub t 0 refl (whole t)))) (stop t)))))
      (within t eₐ (stop t)) (init t j n₂ (tt, tt)) $
      assigns t (agg t (and_then t (load t (within t eₐ (stop t)) (look t j n₄)) (and_then t (load t (within t eₛ
      (fld t refl (stop t))) (look_in t i (found n₃ (sub t 1 refl (whole t))))) (no_more t)))) (within t e (stop t))
      (init t k n₅ typed) $ z)

  -- what is had of the words at a callee's exit, and behind it what is had of the other parameters
  pub lasting :
      K → {G : Goal 𝓤 H} {P R Q : Fml} {k l : ℕ} → (k ≡ l → Seq K 𝓛 (‵ (fsep P R) ∷ ‵ Q ∷ Γ) G) →
      Seq K 𝓛 (‵ (fsep (fsep (fsep P (feq ℕ k l)) R) Q) ∷ Γ) G
  lasting t f = fsplit t $ fsplit t $ fsplit t $ move t (1 ∷ []) $ feq_l t (λ e. fjoin t $ f e)
