-- What two functions over the record differ in, and their contracts: of the function of crate nodes that is called with
-- the words, the cursor and the count, of the one that is lent the record, and of the one that has the record by value.
use Prim.Native.Nat.{ℕ}
use mathlib.Core.List.{List, [], ◌∷◌}
use seplogic.Ra.Ura.{Ura}
use types.Logic.{Logic}
use contract.Monad.{fact}
use denote.Builtin.{u32}
use denote.Exit.{yes}
use denote.Signature.{plain, mut_ref_to, mut_slice_of}
use denote.Triple.Clauses.{Ended, Clauses, closing}
use denote.Triple.Spec.{triple_of}
use denote.Triple.Statement.{Contract}
use Rattle.std.specs.Prelude.{Ok, Err}
use Rattle.walks.proofs.Extra.{Extra, none, one, Values, slots, kepts, out}
use Rattle.walks.proofs.Plain.{Plain, Pair, Argument}
use Rattle.codes.specs.declared.NodeId.{NodeId}
use Rattle.codes.specs.declared.ParsingError.{ParsingError}
use Rattle.codes.specs.declared.Read.{Read}
use Rattle.codes.specs.declared.TokenId.{TokenId}
use Rattle.codes.specs.Answer.{ParseResult}
use Rattle.codes.specs.contracts.TokenId as I
use Rattle.nodes.specs.declared.ActiveList.{ActiveList}
use Rattle.buffer.specs.declared.ParseBuffer.{ParseBuffer}
use Rattle.buffer.specs.contracts.ParseBuffer as P
use Rattle.buffer.proofs.Held.{B, node-id, list, list-of, answer}

-- What a function that is called with the words, the cursor, the count and further parameters X reads, what it asks of
-- the count, the words and X, and what it promises of the cursor, these, the answer and the words then.
pub record Call (X : Extra) : Type 2 where
  pub reads : Argument
  pub Asks : ℕ → List ℕ → Values X → Type 0
  pub Says : TokenId → ℕ → List ℕ → Values X → ParseResult (Read reads.row.Denot) → List ℕ → Type 0

-- What two functions over the record and the words differ in, beside the parameters X behind the cursor: what they
-- answer, what they ask of the record, the words and X, and what they promise of the record and the words before and
-- after.
pub record Way (X : Extra) : Type 2 where
  pub answers : Plain
  pub Asks : ParseBuffer → List ℕ → Values X → Type 0
  pub Gives : TokenId → ParseBuffer → List ℕ → Values X → answers.row.Denot → ParseBuffer → List ℕ → Type 0

-- and where the record is passed by value, the struct of the answer and the record
pub record Pairing (X : Extra) : Type 2 where
  pub way : Way X
  pub step : Pair way.answers B

-- A function that changes the count, by an answer of a node: it asks what the function called asks, of the record's
-- count, and what that promises gives what is promised of the record.
pub record Counting (X : Extra) : Type 2 where
  pub Asks : ℕ → List ℕ → Values X → Type 0
  pub Says : TokenId → ℕ → List ℕ → Values X → ParseResult (Read NodeId) → List ℕ → Type 0
  pub Gives : TokenId → ParseBuffer → List ℕ → Values X → ParseResult (Read NodeId) → ParseBuffer → List ℕ → Type 0
  pub done : (c : TokenId) (b : ParseBuffer) (ws : List ℕ) (x : Values X) (v : Read NodeId) (ws' : List ℕ) →
      Says c b.count ws x (Ok v) ws' → Gives c b ws x (Ok v) (record { count = v.count; list = b.list }) ws'
  pub refused : (c : TokenId) (b : ParseBuffer) (ws : List ℕ) (x : Values X) (e : ParsingError) (ws' : List ℕ) →
      Says c b.count ws x (Err e) ws' → Gives c b ws x (Err e) b ws'

abbrev pub counting : {X : Extra} → Counting X → Call X
counting Y = record { reads = node-id; Asks = Y.Asks; Says = Y.Says }

abbrev pub counted : {X : Extra} → Counting X → Way X
counted Y = record { answers = answer node-id; Asks = λ b ws x. Y.Asks b.count ws x; Gives = Y.Gives }

-- A function that changes the list too, with which it calls.
pub record Listing : Type 2 where
  pub Asks : ℕ → List ℕ → ActiveList → Type 0
  pub Says : TokenId → ℕ → List ℕ → ActiveList → ParseResult (Read ActiveList) → List ℕ → Type 0
  pub Gives : TokenId → ParseBuffer → List ℕ → ParseResult (Read ActiveList) → ParseBuffer → List ℕ → Type 0
  pub done : (c : TokenId) (b : ParseBuffer) (ws : List ℕ) (v : Read ActiveList) (ws' : List ℕ) →
      Says c b.count ws b.list (Ok v) ws' → Gives c b ws (Ok v) (record { count = v.count; list = v.value }) ws'
  pub refused : (c : TokenId) (b : ParseBuffer) (ws : List ℕ) (e : ParsingError) (ws' : List ℕ) →
      Says c b.count ws b.list (Err e) ws' → Gives c b ws (Err e) b ws'

abbrev pub relisting : Listing → Call (one list)
relisting Y = record { reads = list-of; Asks = Y.Asks; Says = Y.Says }

abbrev pub relisted : Listing → Way none
relisted Y = record {
  answers = answer list-of;
  Asks = λ b ws x. Y.Asks b.count ws b.list;
  Gives = λ c b ws x r b' ws'. Y.Gives c b ws r b' ws';
}

module _ (X : Extra) (Z : Call X) where
  abbrev pub called : Ended
  called = record {
    signature = record {
      lifetimes = 1;
      outlives = [];
      params = mut_slice_of (0 ∷ []) tt (plain (λ _. u32)) ∷ plain (λ _. I.the_row) ∷ plain (λ _. u32) ∷ slots 1 X;
      result = plain (λ _. (answer Z.reads).row);
    };
    kept = (yes, (yes, (yes, kepts 1 X)));
  }

  module _ {M : Type 1} (𝓤 : Ura M) where
    abbrev pub called-clauses : Clauses 𝓤 called
    called-clauses κs a = record {
      ghost = Unit {0};
      requires = λ _. fact 𝓤 (Z.Asks a.1.1.0 a.0.now (out 1 κs X a.1.1.1));
      ensures = λ _ r e. fact 𝓤 (Z.Says a.1.0 a.1.1.0 a.0.now (out 1 κs X a.1.1.1) r e.0.now);
    }

    abbrev pub Called : (𝓛 : Logic 𝓤) → Contract 𝓤
    Called 𝓛 = triple_of 𝓛 called.signature (closing 𝓛 called called-clauses)

module _ (X : Extra) (Y : Way X) where
  -- the record lent
  abbrev pub lent : Ended
  lent = record {
    signature = record {
      lifetimes = 2;
      outlives = [];
      params = mut_ref_to (0 ∷ []) tt (plain (λ _. P.the_row)) ∷ mut_slice_of (1 ∷ []) tt (plain (λ _. u32)) ∷ plain
          (λ _. I.the_row) ∷ slots 2 X;
      result = plain (λ _. Y.answers.row);
    };
    kept = (yes, (yes, (yes, kepts 2 X)));
  }

  module _ {M : Type 1} (𝓤 : Ura M) where
    abbrev pub lent-clauses : Clauses 𝓤 lent
    lent-clauses κs a = record {
      ghost = Unit {0};
      requires = λ _. fact 𝓤 (Y.Asks a.0.now a.1.0.now (out 2 κs X a.1.1.1));
      ensures = λ _ r e. fact 𝓤 (Y.Gives a.1.1.0 a.0.now a.1.0.now (out 2 κs X a.1.1.1) r
          e.0.now e.1.0.now);
    }

    abbrev pub Lent : (𝓛 : Logic 𝓤) → Contract 𝓤
    Lent 𝓛 = triple_of 𝓛 lent.signature (closing 𝓛 lent lent-clauses)

module _ (X : Extra) (Y : Pairing X) where
  -- and by value
  abbrev pub passed : Ended
  passed = record {
    signature = record {
      lifetimes = 1;
      outlives = [];
      params = mut_slice_of (0 ∷ []) tt (plain (λ _. u32)) ∷ plain (λ _. I.the_row) ∷ plain (λ _. P.the_row) ∷ slots 1 X;
      result = plain (λ _. Y.step.row);
    };
    kept = (yes, (yes, (yes, kepts 1 X)));
  }

  module _ {M : Type 1} (𝓤 : Ura M) where
    abbrev pub passed-clauses : Clauses 𝓤 passed
    passed-clauses κs a = record {
      ghost = Unit {0};
      requires = λ _. fact 𝓤 (Y.way.Asks a.1.1.0 a.0.now (out 1 κs X a.1.1.1));
      ensures = λ _ s e. fact 𝓤 (Y.way.Gives a.1.0 a.1.1.0 a.0.now (out 1 κs X a.1.1.1) (Y.step.fst s)
          (Y.step.snd s) e.0.now);
    }

    abbrev pub Passed : (𝓛 : Logic 𝓤) → Contract 𝓤
    Passed 𝓛 = triple_of 𝓛 passed.signature (closing 𝓛 passed passed-clauses)
