-- What the checks tell, and what holds where they passed.
use mathlib.Core.Path.{◌≡◌, refl, sym, ◌∙◌, ap}
use mathlib.Core.Bool.{Bool, true, false, cond, not, ◌&&◌, true≢false}
use mathlib.Core.List.{List, [], ◌∷◌, map}
use mathlib.Core.Logic.{◌≢◌}
use mathlib.Core.Option.{some, none}
use Prim.Native.Nat.{ℕ, zero, suc, ◌+◌, ◌-◌, ◌≤◌, ◌<◌}
use native.Mathlib.Omega.{arith}
use lib.ListN.{length, length-map, get_or, drop}
use lib.Dec.{eqb, ltb}
use borrow.Author.Tests.{ltb-true, ltb-false, eqb-true, eqb-false, le-ltb, eq-eqb, ne_eqb, not-false}
use Rattle.codes.specs.Answer.{nodes, row}
use Rattle.codes.specs.Words.{Sized}
use Rattle.kinds.proofs.Laws.{at_most}
use Rattle.kinds.specs.Above.{none_above}
use Rattle.std.specs.Prelude.{Some, None, Ok, Err, IsErrAnd, position, zip}
use Rattle.std.specs.Prelude.{Option as Optional}
use Rattle.std.specs.List.{position_from}
use Rattle.std.proofs.lemmas.List.{drop_more, drop_all}
use Rattle.std.proofs.lemmas.Slice.Zip.{length-zip}
use Rattle.std.proofs.lemmas.List.Quantifiers.{position-Some}
use Rattle.std.proofs.lemmas.Iterator.Adapters.{position_from-zero}
use Rattle.std.proofs.lemmas.Result.{err_from_is_err_and}
use Rattle.checks.specs.declared.Failed.{Failed}
use Rattle.checks.specs.Answer.{Checked, check_of, Good}
use Rattle.checks.specs.Checks.{Check, check, or_else, or, unequal, bad, bad_token, last_check, row_check}
use Rattle.checks.specs.Checks.{place_check, slots_check, input_check, declaration_check}
use Rattle.checks.specs.Checks.{word_declaration_check}
use Rattle.rules.specs.Codes.{pick}
use Rattle.rules.specs.Codes.BaseToken as BaseToken
use Rattle.rules.specs.Codes.ValueTypeKeyword as ValueTypeKeyword
use Rattle.rules.specs.Codes.Limit as Limit
use Rattle.rules.specs.Codes.Refusal as Refusal
use Rattle.rules.specs.Reading.{Row, kind_of, type_of}
use Rattle.rules.specs.Columns.{Nodes}
use Rattle.rules.specs.Places.{place_of, input, Placed}
use Rattle.rules.specs.Words.{word_kind, word_load}
use Rattle.rules.specs.Demand as Demand
use Rattle.std.specs.Result.{result_and}

-- The laws of several checks in their order: one that passes and the next ones, the last one, and one that refuses.
module _ {A : Check} {t : Checked} (f : check_of t ≡ A) where
  pub passes : {u : Unit {0}} → t ≡ Ok u → {x B : Check} → x ≡ B → x ≡ or_else A B
  unfolding or_else
  passes e g = rw (← f, e) g

  pub refuses : {d : Failed} → t ≡ Err d → (r : Checked) → IsErrAnd r (λ e. e ≡ d) → (B : Check) → check_of r ≡ or_else A B
  unfolding or_else
  refuses e r h B = let p = err_from_is_err_and r h in rw (← f, e, p.1, p.2) refl

-- two checks in their order, both made
pub both : (t u : Checked) {r : Checked} {A B : Check} →
    check_of t ≡ A → check_of u ≡ B → r ≡ result_and t u → check_of r ≡ or_else A B
unfolding or_else
both (Ok x) u f g e = rw (e, ← f) g
both (Err d) u f g e = rw (e, ← f) refl

last-check : (c : Check) → or_else c none ≡ c
unfolding or_else
last-check none = refl
last-check (some r) = refl

pub ends : {A x : Check} → x ≡ A → x ≡ or_else A none
ends {A} e = e ∙ sym (last-check A)

pub regroup : (A B C : Check) {x : Check} → x ≡ or_else (or_else A B) C → x ≡ or_else A (or_else B C)
unfolding or_else
regroup none B C e = e
regroup (some r) B C e = e

-- the tokens of a row: the first bad one
abbrev is_bad : ℕ × ℕ → Bool
is_bad token = bad token.0 token.1

abbrev bad_at : Optional ℕ → Check
bad_at None = none
bad_at (Some place) = some (Refusal.BadToken, place)

module _ (tk tv : List ℕ) (e : length tv ≡ length tk) where
  bad-from :
      (place left : ℕ) → place + left ≡ length tk →
      bad_token (row tk tv) place left ≡ bad_at (position_from is_bad place (zip (drop place tk) (drop place tv)))
  unfolding bad_token
  bad-from place zero d =
      let a : drop place tk ≡ [] = drop_all place tk (omega arith) in
      rw a refl
  bad-from place (suc left) d =
      let a : drop place tk ≡ get_or tk place 0 ∷ drop (place + 1) tk = drop_more tk place 0 (omega arith) in
      let b : drop place tv ≡ get_or tv place 0 ∷ drop (place + 1) tv = drop_more tv place 0 (omega arith) in
      rw (a, b) (go (bad (get_or tk place 0) (get_or tv place 0)) _ (bad-from (place + 1) left (omega arith)))
    where
      go :
          (b : Bool) {x : Check} (o : Optional ℕ) → x ≡ bad_at o →
          pick b (some (Refusal.BadToken, place)) x ≡ bad_at (cond b (Some place) o)
      go true o q = refl
      go false o q = q

  bad-told :
      {found : Optional ℕ} → found ≡ position is_bad (zip tk tv) → bad_at found ≡ bad_token (row tk tv) 0 (length tk)
  bad-told f =
      ap bad_at (f ∙ position_from-zero is_bad (zip tk tv)) ∙ sym (bad-from 0 (length tk) (omega arith))

  pub none-found : None ≡ position is_bad (zip tk tv) → none ≡ bad_token (row tk tv) 0 (length tk)
  none-found f = bad-told f

  module _ {place : ℕ} (f : Some place ≡ position is_bad (zip tk tv)) where
    pub bad-found : some (Refusal.BadToken, place) ≡ bad_token (row tk tv) 0 (length tk)
    bad-found = bad-told f

    pub bad-place : place < length tk
    bad-place =
        let (a, _, _) = position-Some is_bad (zip tk tv) place (0, 0) (sym f) in
        let b = length-zip tk tv in
        omega arith

-- a row with no bad token
both_true : (a b : Bool) → a && b ≡ true → (a ≡ true) × (b ≡ true)
both_true true b e = (refl, e)
both_true false b e = absurd (true≢false (sym e))

module _
    (tk tv : List ℕ) (f : none_above BaseToken.Error tk ≡ true) (g : none_above ValueTypeKeyword.Bool tv ≡ true)
    (e : length tv ≡ length tk) where
  none-bad : (place left : ℕ) → place + left ≤ length tk → bad_token (row tk tv) place left ≡ none
  unfolding bad_token
  none-bad place zero d = refl
  none-bad place (suc left) d =
      let x : get_or tk place 0 ≤ BaseToken.Error = at_most BaseToken.Error tk f place (omega arith) in
      let y : get_or tv place 0 ≤ ValueTypeKeyword.Bool = at_most ValueTypeKeyword.Bool tv g place (omega arith) in
      rw (le-ltb _ _ x, le-ltb _ _ y) (none-bad (place + 1) left (omega arith))

  all-good : none ≡ bad_token (row tk tv) 0 (length tk)
  all-good = sym (none-bad 0 (length tk) (omega arith))

-- a row of a right size, which is good where its kinds and its value types pass
pub good-row :
    (tk tv : List ℕ) → length tv ≡ length tk → (length tk ≡ 0 → ⊥) → length tk ≤ Limit.Tokens → {good : Bool} →
    good ≡ none_above BaseToken.Error tk && none_above ValueTypeKeyword.Bool tv → Good good (row tk tv)
unfolding or_else
good-row tk tv e h b {good} f =
    record {
      some = λ g. omega arith;
      few = λ g. b;
      checked = λ g.
          let (x, y) = both_true (none_above BaseToken.Error tk) (none_above ValueTypeKeyword.Bool tv) (sym f ∙ g) in
          rw (eq-eqb _ _ e, ne_eqb _ _ h, le-ltb _ _ b, sym (all-good tk tv x y e))
          (last-check (last_check (row tk tv)));
    }

pub not_good : (row : Row) → Good false row
not_good row =
    record {
      some = λ e. absurd (true≢false (sym e));
      few = λ e. absurd (true≢false (sym e));
      checked = λ e. absurd (true≢false (sym e));
    }

pub good-sized :
    (tk tv : List ℕ) {good : Bool} → Good good (row tk tv) → good ≡ true → (1 ≤ length tk) × (length tk ≤ Limit.Tokens)
good-sized tk tv f e = (f.some e, f.few e)

pub good-checked :
    {good : Bool} {row : Row} → Good good row → good ≡ true → {x : Check} → x ≡ last_check row → x ≡ row_check row
good-checked f e g = g ∙ sym (f.checked e)

-- a check that refuses has a number of the list, and its place: the cursor and the count are as given
abbrev CheckInPlace : ℕ → Nodes → Check → Type 0
CheckInPlace c o none = Unit {0}
CheckInPlace c o (some r) = Placed c o r.0 r.1 r.1 c o.count

pub record Listed (e : Check) : Type 0 where
  pub at : (c : ℕ) (o : Nodes) → CheckInPlace c o e

none-listed : Listed none
none-listed = record { at = λ c o. tt }

one-listed :
    (wrong : Bool) (n x : ℕ) → ((c : ℕ) (o : Nodes) → Placed c o n x x c o.count) → Listed (check wrong n x)
one-listed true n x h = record { at = h }
one-listed false n x h = none-listed

or-listed : {a b : Check} → Listed a → Listed b → Listed (or_else a b)
unfolding or_else
or-listed {a = none} h g = g
or-listed {a = some r} h g = h

tokens-listed : (row : Row) (place left : ℕ) → Listed (bad_token row place left)
unfolding bad_token
tokens-listed row place zero = none-listed
tokens-listed row place (suc left) =
    go (bad (kind_of row place) (type_of row place)) (tokens-listed row (place + 1) left)
  where
    go :
        (b : Bool) → Listed (bad_token row (place + 1) left) →
        Listed (pick b (some (Refusal.BadToken, place)) (bad_token row (place + 1) left))
    go true h = record { at = λ c o. (refl, refl, refl) }
    go false h = h

zero-listed : (wrong : Bool) (n : ℕ) → place_of n ≡ input → Listed (check wrong n 0)
zero-listed wrong n e = one-listed wrong n 0 (λ c o. rw e (refl, refl, refl, refl))

row_listed : (row : Row) → Listed (row_check row)
row_listed row =
    let size = length row.kinds in
    let last = size - 1 in
    let missized = or (unequal (length row.types) size) (or (eqb size 0) (ltb Limit.Tokens size)) in
    let unended = unequal (kind_of row last) BaseToken.EndOfSource in
    or-listed (zero-listed missized Refusal.BadRow refl)
    (or-listed (tokens-listed row 0 size)
    (or-listed (one-listed unended Refusal.NoEndOfSource last (λ c o. (refl, refl, refl))) none-listed))

place-listed : (row : Row) (place : ℕ) → Listed (place_check row place)
place-listed row place = zero-listed (not (ltb place (length row.kinds))) Refusal.BadCursor refl

slots-listed : (slots loads count : ℕ) → Listed (slots_check slots loads count)
slots-listed slots loads count =
    or-listed (zero-listed (or (unequal loads slots) (ltb Limit.Slots slots)) Refusal.BadColumns refl)
    (or-listed (zero-listed (ltb slots count) Refusal.BadCount refl) none-listed)

module _ (row : Row) (c : ℕ) where
  pub input-listed : (slots loads count : ℕ) → Listed (input_check row c slots loads count)
  input-listed slots loads count =
      or-listed (row_listed row)
      (or-listed (place-listed row c)
      (or-listed (slots-listed slots loads count) none-listed))

  module _ (start flags : ℕ) where
    pub declaration-listed :
        (slots loads count : ℕ) → Listed (declaration_check row c slots loads count start flags)
    declaration-listed slots loads count =
        or-listed (row_listed row)
        (or-listed (place-listed row c)
        (or-listed (place-listed row start)
        (or-listed (slots-listed slots loads count)
        (or-listed (zero-listed (ltb Limit.Flags flags) Refusal.BadFlags refl) none-listed))))

    pub word-listed :
        (kind slots loads count : ℕ) → Listed (word_declaration_check row c slots loads count start flags kind)
    word-listed kind slots loads count =
        let wrong = or (ltb kind BaseToken.Word8) (ltb BaseToken.Word128 kind) in
        or-listed (declaration-listed slots loads count)
        (or-listed (zero-listed wrong Refusal.BadWordKind refl) none-listed)

-- what passed
both-passed : (a b : Check) → or_else a b ≡ none → (a ≡ none) × (b ≡ none)
unfolding or_else
both-passed none b e = (refl, e)
both-passed (some r) b e = let z : ◌≡◌ {A = ℕ} 0 1 = cc in absurd (omega arith)

passed : (w : Bool) (n x : ℕ) → check w n x ≡ none → w ≡ false
passed true n x e = let z : ◌≡◌ {A = ℕ} 0 1 = cc in absurd (omega arith)
passed false n x e = refl

pub neither : (a b : Bool) → or a b ≡ false → (a ≡ false) × (b ≡ false)
neither true b e = absurd (true≢false e)
neither false b e = (refl, e)

pub same : (a b : ℕ) → unequal a b ≡ false → a ≡ b
same a b e = eqb-true a b (not-false (eqb a b) e)

-- the size of a row whose check passed
row_sized : (tk tv : List ℕ) → row_check (row tk tv) ≡ none → (length tv ≡ length tk) × (length tk ≤ Limit.Tokens)
row_sized tk tv e =
    let unlike = unequal (length tv) (length tk) in
    let many = ltb Limit.Tokens (length tk) in
    let (a, b) = neither unlike (or (eqb (length tk) 0) many) (passed _ _ _ (both-passed _ _ e).0) in
    (same _ _ a, ltb-false _ _ (neither (eqb (length tk) 0) many b).1)

-- and its last token
row-closed : (tk tv : List ℕ) → row_check (row tk tv) ≡ none → Demand.Closed (row tk tv)
row-closed tk tv e =
    let (a, b) = both-passed _ _ e in
    let many = ltb Limit.Tokens (length tk) in
    let (_, d) = neither (unequal (length tv) (length tk)) (or (eqb (length tk) 0) many) (passed _ _ _ a) in
    let z : length tk ≢ 0 = eqb-false (length tk) 0 (neither (eqb (length tk) 0) many d).0 in
    let (f, _) = both-passed _ _ (both-passed _ _ b).1 in
    record { last = length tk - 1; size = omega arith; kind = same _ _ (passed _ _ _ f) }

place_inside : (tk tv : List ℕ) (c : ℕ) → place_check (row tk tv) c ≡ none → c < length tk
place_inside tk tv c e = ltb-true _ _ (not-false (ltb c (length tk)) (passed _ _ _ e))

slots-sized :
    (slots loads k : ℕ) → slots_check slots loads k ≡ none → (loads ≡ slots) × (slots ≤ Limit.Slots) × (k ≤ slots)
slots-sized slots loads k e =
    let (a, b) = both-passed _ _ e in
    let (f, g) = neither (unequal loads slots) (ltb Limit.Slots slots) (passed _ _ _ a) in
    (same _ _ f, ltb-false _ _ g, ltb-false _ _ (passed _ _ _ (both-passed _ _ b).0))

-- What holds where the checks passed: what every reader takes for granted, of the loads as words, and more of the row, the
-- cursor and the columns.
pub record Entered (tk tv : List ℕ) (c : ℕ) (o : Nodes) : Type 0 where
  pub sized : Sized tk tv o.loads c o.count
  pub even : length o.loads ≡ length o.kinds
  pub closed : Demand.Closed (row tk tv)
  pub inside : c < length tk

module _ {tk tv ns ls : List ℕ} {c k : ℕ} where
  all-sized :
      row_check (row tk tv) ≡ none → place_check (row tk tv) c ≡ none → slots_check (length ns) (length ls) k ≡ none →
      Entered tk tv c (nodes ns ls k)
  all-sized r p s =
      let (a, b) = row_sized tk tv r in
      let d = place_inside tk tv c p in
      let (e, f, g) = slots-sized (length ns) (length ls) k s in
      record {
        sized = record { types = a; tokens = b; at = omega arith; slots = omega arith; used = omega arith };
        even = e;
        closed = row-closed tk tv r;
        inside = d;
      }

  input-passed : input_check (row tk tv) c (length ns) (length ls) k ≡ none → Entered tk tv c (nodes ns ls k)
  input-passed e =
      let (r, s) = both-passed _ _ e in
      let (p, t) = both-passed _ _ s in
      all-sized r p (both-passed _ _ t).0

  declaration-passed :
      (start flags : ℕ) → declaration_check (row tk tv) c (length ns) (length ls) k start flags ≡ none →
      Entered tk tv c (nodes ns ls k) × (start < length tk) × (flags ≤ Limit.Flags)
  declaration-passed start flags e =
      let (r, s) = both-passed _ _ e in
      let (p, t) = both-passed _ _ s in
      let (q, u) = both-passed _ _ t in
      let (v, w) = both-passed _ _ u in
      (all-sized r p v, place_inside tk tv start q, ltb-false _ _ (passed _ _ _ (both-passed _ _ w).0))

  module _ {t : Checked} {u : Unit {0}} (g : t ≡ Ok u) where
    pub input-entered :
        check_of t ≡ input_check (row tk tv) c (length ns) (length ls) k → Entered tk tv c (nodes ns ls k)
    input-entered f = input-passed (sym f ∙ ap check_of g)

    module _ (start flags : ℕ) where
      pub declaration-entered :
          check_of t ≡ declaration_check (row tk tv) c (length ns) (length ls) k start flags →
          Entered tk tv c (nodes ns ls k) × (start < length tk) × (flags ≤ Limit.Flags)
      declaration-entered f = declaration-passed start flags (sym f ∙ ap check_of g)

      pub word-entered :
          (kind : ℕ) → check_of t ≡ word_declaration_check (row tk tv) c (length ns) (length ls) k start flags kind →
          Entered tk tv c (nodes ns ls k) × (start < length tk) × (flags ≤ Limit.Flags)
      word-entered kind f = declaration-passed start flags (both-passed _ _ (sym f ∙ ap check_of g)).0

-- a check of words is the one of what they unpack to
pub words-check :
    (E : ℕ → ℕ → ℕ → Check) (ws : List ℕ) (k : ℕ) {x : Check} → x ≡ E (length ws) (length ws) k →
    x ≡ E (length (map word_kind ws)) (length (map word_load ws)) k
words-check E ws k f = rw (length-map ws word_kind, length-map ws word_load) f
