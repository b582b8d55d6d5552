-- The reader's answers from those of crate tokens.
use mathlib.Core.Path.{◌≡◌, refl, ap, subst}
use mathlib.Core.Bool.{Bool, true, false}
use mathlib.Core.List.{List, []}
use Prim.Native.Nat.{ℕ, ◌+◌, ◌≤◌}
use native.Mathlib.Omega.{arith}
use lib.Dec.{eqb}
use Rattle.std.specs.Prelude.{Ok, Err}
use Rattle.std.specs.Prelude.{Option as Optional}
use Rattle.rules.specs.Codes.{pick}
use Rattle.rules.specs.Codes.BaseToken as BaseToken
use Rattle.rules.specs.Codes.Limit as Limits
use Rattle.rules.specs.Reading.{Rule, Result, ok, no, pure, consume, optional}
use Rattle.rules.specs.Words.{Words}
use Rattle.codes.specs.declared.TokenId.{TokenId}
use Rattle.codes.specs.Answer.{ParseResult, token, row, answer}
use Rattle.codes.specs.Words.{As, Quiet, nodes}
use Rattle.codes.proofs.Onto.{Onto, reads, shows}
use Rattle.tokens.specs.Answer.{kind_in, consumed, consuming, after, Optionally}
use Rattle.tokens.proofs.Laws.{optioned}
use Rattle.reader.specs.declared.Tokens.{Tokens}
use Rattle.reader.specs.Answer.{moved, kinds_of, place, met, ending, Tries, Consumes}

-- the answer of a token that was expected without the cursor, and the cursor then
abbrev pub met_by : ParseResult TokenId → ParseResult (Unit {0})
met_by (Ok _) = Ok tt
met_by (Err e) = Err e

abbrev pub next_of : ParseResult TokenId → TokenId
next_of (Ok p) = p
next_of (Err e) = e.cursor

-- it is the rule's answer, and the rule's cursor
module _ {m : Rule Words (Unit {0})} {c : ℕ} {s : Words} {r : ParseResult TokenId} {ws : List ℕ}
    (g : As consumed m c s r ws) where
  answered : As met m c s (met_by r) ws × (next_of r ≡ token (m c s).cursor)
  answered =
      let h = go (m c s).result (m c s).cursor (m c s).state.count in
      (record { reply = rw g.reply h.0; words = g.words }, rw g.reply h.1)
    where
      go :
          (q : Result (Unit {0})) (p k : ℕ) →
          (met_by (answer consumed q p k) ≡ answer met q p k) × (next_of (answer consumed q p k) ≡ token p)
      go (ok a) p k = (refl, refl)
      go (no n x y) p k = (refl, refl)

-- the cursor goes on by one, whether the token is of the kind expected or not
pub expects :
    (t : Tokens) (k n : ℕ) {r : ParseResult TokenId} → Quiet consumed (consuming k) (kinds_of t) (place t) n r →
    Consumes t k n (met_by r) (moved t (next_of r))
unfolding consume consuming
expects t k n g = record {
  reader = ap (moved t) (answered (g.run [] [])).1;
  answer = record { run = λ tv ws. (answered (g.run tv ws)).0 };
}

-- a token that may stand there takes the cursor at most one further
at_most : (b : Bool) (c : ℕ) → pick b (c + 1) c ≤ c + 1
at_most true c = omega arith
at_most false c = omega arith

pub optional-within :
    {ks : List ℕ} {k c : ℕ} {o : Optional TokenId} → Optionally ks k c o → c ≤ Limits.Tokens →
    after c o ≤ Limits.Tokens + 1
unfolding optional
optional-within {ks} {k} {c} g h =
    let m = at_most (eqb (kind_in ks c) k) c in omega (arith, rw (← g.cursor) at m, h)

pub tried-within :
    {t t' : Tokens} {k : ℕ} {b : Bool} → Tries t k b t' → place t ≤ Limits.Tokens → place t' ≤ Limits.Tokens + 1
unfolding optional
tried-within {t} {k = k} g h =
    let m = at_most (eqb (kind_in (kinds_of t) (place t)) k) (place t) in omega (arith, rw (← g.cursor) at m, h)

-- whether a token that may stand there was taken, for any value types
tried : {t t' : Tokens} {k : ℕ} {b : Bool} → Tries t k b t' → (tv : List ℕ) {s : Words} →
    Onto (optional (row (kinds_of t) tv) k) (place t) s (pure b) (place t') s
unfolding optional
tried {t} {k = k} {b} g tv =
    let e : ok b ≡ ok (eqb (kind_in (kinds_of t) (place t)) k) = g.found in
    let q : b ≡ eqb (kind_in (kinds_of t) (place t)) k = cc in
    record { same = rw (q, g.cursor) refl }

-- the answer of a token that was expected with the cursor
abbrev pub at_cursor : ParseResult (Unit {0}) → TokenId → ParseResult TokenId
at_cursor (Ok _) p = Ok p
at_cursor (Err e) p = Err e

with_cursor :
    {m : Rule Words (Unit {0})} {c : ℕ} {s : Words} {r : ParseResult (Unit {0})} {ws : List ℕ} → As met m c s r ws →
    As consumed m c s (at_cursor r (token (m c s).cursor)) ws
with_cursor {m} {c} {s} g =
    record { reply = rw g.reply (go (m c s).result (m c s).cursor (m c s).state.count); words = g.words }
  where
    go :
        (q : Result (Unit {0})) (p k : ℕ) → at_cursor (answer met q p k) (token p) ≡ answer consumed q p k
    go (ok a) p k = refl
    go (no n x y) p k = refl

-- an optional comma, and then the token that closes a list: by the core's answers, and by the reader's
pub ends-core :
    (k : ℕ) {ks : List ℕ} {c n : ℕ} {o : Optional TokenId} {r : ParseResult TokenId} →
    Optionally ks BaseToken.Comma c o →
    Quiet consumed (consuming k) ks (after c o) n r → Quiet consumed (ending k) ks c n r
unfolding ending consuming
ends-core k g h = record { run = λ tv ws. shows (reads _ (optioned g tv)) (h.run tv ws) }

pub ends :
    {t t' t'' : Tokens} (k n : ℕ) {b : Bool} {r : ParseResult (Unit {0})} → Tries t BaseToken.Comma b t' →
    Consumes t' k n r t'' →
    Quiet consumed (ending k) (kinds_of t) (place t) n (at_cursor r t''.cursor)
unfolding ending consuming consume
ends {t} {t'} {t''} k n {r = r} g h =
    let same : kinds_of t' ≡ kinds_of t = ap kinds_of g.row in
    let next : t''.cursor ≡ token (place t' + 1) = ap (λ (x : Tokens). x.cursor) h.reader in
    record {
      run = λ tv ws.
          shows (reads _ (tried g tv))
          (rw next (with_cursor (subst (λ (ks : List ℕ). As met (consume (row ks tv) k) (place t') (nodes ws n) r ws) same
          (h.answer.run tv ws))));
    }
