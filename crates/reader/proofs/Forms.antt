-- What the functions over a reader differ in, and their contracts: of the function that is called with the row and the
-- cursor, of the one that is lent the reader, and of the one above it that makes the reader.
use Prim.Native.Nat.{ℕ, ◌+◌, ◌≤◌}
use mathlib.Core.List.{List, [], ◌∷◌}
use seplogic.Ra.Ura.{Ura}
use mir.Syntax.{named}
use base.Logic.{SProp, ent, sep, emp, via, fst∗}
use types.Logic.{Logic}
use contract.Monad.{fact}
use denote.Builtin.{RefOf}
use denote.Exit.{yes}
use denote.RattleType.{RattleType}
use denote.Signature.{Slot, plain, named_lft, mut_ref_to}
use denote.Triple.Clauses.{Ended, Clauses, closing}
use denote.Triple.Spec.{triple_of}
use denote.Triple.Statement.{Contract}
use denote.Triple.Walked.{needs}
use Rattle.walks.proofs.Extra.{Extra, Values, slots, kepts, out}
use Rattle.walks.proofs.Plain.{Plain, Pair, Argument, truth, nothing, struct, option, result}
use Rattle.std.specs.Prelude.{◌≡◌, Bool, true, false, Some, None, Ok, Err}
use Rattle.std.specs.Prelude.{Option as Optional}
use Rattle.rules.specs.Codes.Limit as Limits
use Rattle.codes.specs.declared.ParsingError.{ParsingError}
use Rattle.codes.specs.declared.TokenId.{TokenId}
use Rattle.codes.specs.Answer.{ParseResult}
use Rattle.codes.specs.contracts.TokenId as I
use Rattle.codes.proofs.TokenId.TheLaws as I'
use Rattle.codes.specs.contracts.ParsingError as X
use Rattle.codes.proofs.ParsingError.TheLaws as X'
use Rattle.tokens.specs.contracts.Row as R
use Rattle.reader.specs.declared.Tokens.{Tokens}
use Rattle.reader.specs.Answer.{moved, kinds_of}
use Rattle.reader.specs.contracts.Tokens as T

abbrev pub cursor : Plain
cursor = struct I.the_type I'.the_laws I'.the_plain I'.the_copy

-- the reader and the row as the referent's place in a signature
abbrev pub behind : Slot 2
behind = plain (λ κs. T.the_row (named_lft 2 1 tt κs))

abbrev pub behind-row : Slot 2
behind-row = plain (λ κs. R.the_row (named_lft 2 1 tt κs))

-- what a function asks of the cursor: nothing, or that it is at most this number
pub data Asking : Type 0 where
  free : Asking
  upto : ℕ → Asking

abbrev pub Asked : Asking → TokenId → Type 0
Asked free c = Unit {0}
Asked (upto n) c = c.0 ≤ n

-- one past the last token there can be
abbrev pub bounded : Asking
bounded = upto (Limits.Tokens + 1)

module _ {M : Type 1} (𝓤 : Ura M) where
  abbrev asks : Asking → TokenId → SProp 𝓤
  asks free c = emp 𝓤
  asks (upto n) c = fact 𝓤 (Asked (upto n) c)

  pub asked : (g : Asking) (c : TokenId) {P Q : SProp 𝓤} → (Asked g c → ent 𝓤 P Q) → ent 𝓤 (sep 𝓤 P (asks g c)) Q
  asked free c {P} k = via 𝓤 P (fst∗ 𝓤 P (emp 𝓤)) (k tt)
  asked (upto n) c {P} k = needs 𝓤 _ P k

-- the cursor is at most one past the last token there can be
abbrev pub Below : TokenId → Type 0
Below c = c.0 ≤ Limits.Tokens + 1

-- The type of the answer of a function that is called with the row, the cursor and further parameters X, and what it
-- promises of the kinds, the cursor and X. It asks that the cursor is so far at most.
pub record Call (X : Extra) : Type 2 where
  pub step : RattleType
  pub Says : List ℕ → TokenId → Values X → step.Denot → Type 0

-- What a function that is lent a reader answers, and what it promises of the reader before and after and of X.
pub record Way (X : Extra) : Type 2 where
  pub answer : Plain
  pub Gives : Tokens → Values X → answer.row.Denot → Tokens → Type 0

-- The struct of an answer and a cursor that the function called gives, what that promises, and what is promised of the
-- reader, which follows and from which that follows.
pub record Pairing (X : Extra) : Type 2 where
  pub way : Way X
  pub step : Pair way.answer cursor
  pub Says : List ℕ → TokenId → Values X → step.row.Denot → Type 0
  pub so : (h : Tokens) (x : Values X) (s : step.row.Denot) → Says (kinds_of h) h.cursor x s →
      way.Gives h x (step.fst s) (moved h (step.snd s))
  pub back : (h : Tokens) (x : Values X) (r : way.answer.row.Denot) (h' : Tokens) → way.Gives h x r h' →
      Says (kinds_of h) h.cursor x (step.make r h'.cursor)

abbrev pub paired : {X : Extra} → Pairing X → Call X
paired Y = record { step = Y.step.row; Says = Y.Says }

-- The cursor after a token that may stand there, by the function called, and what is promised of the reader, which
-- follows: whether there is one.
pub record Trial (X : Extra) : Type 2 where
  pub Says : List ℕ → TokenId → Values X → Optional TokenId → Type 0
  pub Gives : Tokens → Values X → Bool → Tokens → Type 0
  pub there : (h : Tokens) (x : Values X) (p : TokenId) → Says (kinds_of h) h.cursor x (Some p) →
      Gives h x true (moved h p)
  pub missing : (h : Tokens) (x : Values X) → Says (kinds_of h) h.cursor x None → Gives h x false h

abbrev pub token-id : Argument
token-id = record {
  row = I.the_row;
  laws = I'.the_row_laws;
  told = I'.the_told;
  plain = I'.the_row_plain;
  copy = I'.the_row_copy;
}

-- the type of such a cursor, as a walk has it
abbrev pub next : Plain
next = option token-id

abbrev pub tried : {X : Extra} → Trial X → Way X
tried Y = record { answer = truth; Gives = Y.Gives }

abbrev pub trying : {X : Extra} → Trial X → Call X
trying Y = record { step = next.row; Says = Y.Says }

-- The answer for a token that is expected, by the function called, and what is promised of the reader, which follows: it
-- goes on from the answer's cursor, which is answered only in a refusal.
pub record Expectation (X : Extra) : Type 2 where
  pub Says : List ℕ → TokenId → Values X → ParseResult TokenId → Type 0
  pub Gives : Tokens → Values X → ParseResult (Unit {0}) → Tokens → Type 0
  pub read : (h : Tokens) (x : Values X) (p : TokenId) → Says (kinds_of h) h.cursor x (Ok p) →
      Gives h x (Ok tt) (moved h p)
  pub refused : (h : Tokens) (x : Values X) (e : ParsingError) → Says (kinds_of h) h.cursor x (Err e) →
      Gives h x (Err e) (moved h e.cursor)

abbrev pub parsing-error : Argument
parsing-error = record {
  row = X.the_row;
  laws = X'.the_row_laws;
  told = X'.the_told;
  plain = X'.the_row_plain;
  copy = X'.the_row_copy;
}

-- the answer of the function called, and of the one that is lent the reader
abbrev pub consumed : Plain
consumed = result token-id parsing-error

abbrev pub met : Plain
met = result nothing parsing-error

abbrev pub expected : {X : Extra} → Expectation X → Way X
expected Y = record { answer = met; Gives = Y.Gives }

abbrev pub expecting : {X : Extra} → Expectation X → Call X
expecting Y = record { step = consumed.row; Says = Y.Says }

-- what a function whose parameters are the row and the cursor asks of the cursor, the type of its answer, and what it
-- promises of the kinds, the cursor and the further parameters
pub record Promise (X : Extra) : Type 2 where
  pub asking : Asking
  pub answer : RattleType
  pub Says : List ℕ → TokenId → Values X → answer.Denot → Type 0

-- the promise of the function that is called with the row and the cursor
abbrev pub promised : {X : Extra} → Pairing X → Asking → Promise X
promised Y g = record { asking = g; answer = Y.step.row; Says = Y.Says }

module _ (X : Extra) (Z : Call X) where
  abbrev pub passed : Ended
  passed = record {
    signature = record {
      lifetimes = 2;
      outlives = record { long = 1; long_ok = tt; short = named 0; short_ok = tt } ∷ [];
      params = RefOf (0 ∷ []) tt behind-row (λ κs. tt) ∷ plain (λ _. I.the_row) ∷ slots 2 X;
      result = plain (λ _. Z.step);
    };
    kept = (yes, (yes, kepts 2 X));
  }

  module _ {M : Type 1} (𝓤 : Ura M) where
    abbrev pub passed-clauses : Clauses 𝓤 passed
    passed-clauses κs a = record {
      ghost = Unit {0};
      requires = λ _. fact 𝓤 (Below a.1.0);
      ensures = λ _ s e. fact 𝓤 (Z.Says a.0.now.kinds.now a.1.0 (out 2 κs X a.1.1) s);
    }

    abbrev pub Passed : (𝓛 : Logic 𝓤) → Contract 𝓤
    Passed 𝓛 = triple_of 𝓛 passed.signature (closing 𝓛 passed passed-clauses)

module _ (X : Extra) (Y : Way X) where
  abbrev pub lent : Ended
  lent = record {
    signature = record {
      lifetimes = 2;
      outlives = record { long = 1; long_ok = tt; short = named 0; short_ok = tt } ∷ [];
      params = mut_ref_to (0 ∷ []) tt behind ∷ slots 2 X;
      result = plain (λ _. Y.answer.row);
    };
    kept = (yes, kepts 2 X);
  }

  module _ {M : Type 1} (𝓤 : Ura M) where
    abbrev pub lent-clauses : Clauses 𝓤 lent
    lent-clauses κs a = record {
      ghost = Unit {0};
      requires = λ _. fact 𝓤 (Below a.0.now.cursor);
      ensures = λ _ r e. fact 𝓤 (Y.Gives a.0.now (out 2 κs X a.1) r e.0.now);
    }

    abbrev pub Lent : (𝓛 : Logic 𝓤) → Contract 𝓤
    Lent 𝓛 = triple_of 𝓛 lent.signature (closing 𝓛 lent lent-clauses)

-- What a function that looks at a reader, which is lent to it by `&`, answers, and what it promises of the reader and X.
pub record Look (X : Extra) : Type 2 where
  pub answer : Plain
  pub Shows : Tokens → Values X → answer.row.Denot → Type 0

-- the reader is then as before
abbrev pub looked : {X : Extra} → Look X → Way X
looked Y = record { answer = Y.answer; Gives = λ h x r h'. Y.Shows h x r × (h' ≡ h) }

module _ (X : Extra) (Y : Look X) where
  abbrev pub shared : Ended
  shared = record {
    signature = record {
      lifetimes = 2;
      outlives = record { long = 1; long_ok = tt; short = named 0; short_ok = tt } ∷ [];
      params = RefOf (0 ∷ []) tt behind (λ κs. tt) ∷ slots 2 X;
      result = plain (λ _. Y.answer.row);
    };
    kept = (yes, kepts 2 X);
  }

  module _ {M : Type 1} (𝓤 : Ura M) where
    abbrev pub shared-clauses : Clauses 𝓤 shared
    shared-clauses κs a = record {
      ghost = Unit {0};
      requires = λ _. emp 𝓤;
      ensures = λ _ r e. fact 𝓤 (Y.Shows a.0.now (out 2 κs X a.1) r);
    }

    abbrev pub Shared : (𝓛 : Logic 𝓤) → Contract 𝓤
    Shared 𝓛 = triple_of 𝓛 shared.signature (closing 𝓛 shared shared-clauses)

module _ (X : Extra) (P : Promise X) where
  -- the row and the cursor as parameters, of a function that makes a reader of them
  abbrev pub plainly : Ended
  plainly = record {
    signature = record {
      lifetimes = 1;
      outlives = [];
      params = plain (λ κs. R.the_row (named_lft 1 0 tt κs)) ∷ plain (λ _. I.the_row) ∷ slots 1 X;
      result = plain (λ _. P.answer);
    };
    kept = (yes, (yes, kepts 1 X));
  }

  module _ {M : Type 1} (𝓤 : Ura M) where
    abbrev pub plainly-clauses : Clauses 𝓤 plainly
    plainly-clauses κs a = record {
      ghost = Unit {0};
      requires = λ _. asks 𝓤 P.asking a.1.0;
      ensures = λ _ s e. fact 𝓤 (P.Says a.0.kinds.now a.1.0 (out 1 κs X a.1.1) s);
    }

    abbrev pub Plainly : (𝓛 : Logic 𝓤) → Contract 𝓤
    Plainly 𝓛 = triple_of 𝓛 plainly.signature (closing 𝓛 plainly plainly-clauses)
