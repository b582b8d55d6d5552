-- append and append_item, and the functions with the record by value, as `Forms.antt` has what they differ in.
use Prim.Native.Nat.{◌≤◌}
use mathlib.Core.Path.{refl}
use Rattle.rules.specs.Codes.Limit as Limits
use Rattle.rules.specs.Words.{append, push_list_item}
use Rattle.codes.specs.Words.{As, Gives, nodes}
use Rattle.codes.specs.contracts.Node as M
use Rattle.codes.proofs.Node.TheLaws as M'
use Rattle.nodes.specs.Answer.{WithinSlots, ends, listed, past}
use Rattle.walks.proofs.Extra.{none, one}
use Rattle.walks.proofs.Plain.{Plain, Argument, Pair, struct}
use denote.Struct.Laws as LL
use Rattle.buffer.specs.Answer.{Appends, AppendsItem}
use Rattle.buffer.specs.contracts.Appended as X
use Rattle.buffer.proofs.Appended.TheLaws as X'
use Rattle.buffer.proofs.Held.{B, node-id, list-of, answer}
use Rattle.buffer.proofs.Forms.{Counting, counted, Listing, relisted, Pairing}

-- the struct of an answer and the record, whole and by its parts
abbrev whole-appended : Argument → Plain
whole-appended T =
    struct (X.the_type T.row) (X'.the_laws T.row T.laws T.told) (X'.the_plain T.row T.plain)
    (X'.the_copy T.row T.laws T.copy)

abbrev appended : (T : Argument) → Pair (answer T) B
appended T = record {
  name = (X.the_type T.row).name;
  row = X.the_row T.row;
  fst = λ s. s.reply;
  snd = λ s. s.buffer;
  make = λ r b. record { reply = r; buffer = b };
  made = λ r b Q e. e;
  tells = LL.tells (X.the_type T.row) (X'.the_laws T.row T.laws T.told);
  parts = λ s vs is. (
    (LL.owed (X.the_type T.row) (X'.the_laws T.row T.laws T.told) s vs is).0,
    (LL.owed (X.the_type T.row) (X'.the_laws T.row T.laws T.told) s vs is).1.0,
  );
  whole = λ r b is is'.
      LL.owes (X.the_type T.row) (X'.the_laws T.row T.laws T.told) (record { reply = r; buffer = b }) (is, (is', tt));
  typed = (whole-appended T).typed;
  makes = (whole-appended T).makes;
}

abbrev pub node : Plain
node = struct M.the_type M'.the_laws M'.the_plain M'.the_copy

abbrev pub counting : Counting (one node)
counting = record {
  Asks = λ n ws x. WithinSlots ws n × (x.1 ≤ Limits.Load);
  Says = λ c n ws x r ws'. Gives (append x.0 x.1) c.0 (nodes ws n) r ws';
  Gives = λ c b ws x r b' ws'. Appends c.0 b ws x.0 x.1 r b' ws';
  done = λ c b ws x v ws' e. record { node = e; buffer = refl };
  refused = λ c b ws x d ws' e. record { node = e; buffer = refl };
}

abbrev pub listing : Listing
listing = record {
  Asks = λ n ws l. WithinSlots ws n × (past l ≤ n);
  Says = λ c n ws l r ws'. As listed (push_list_item (ends l)) c.0 (nodes ws n) r ws';
  Gives = λ c b ws r b' ws'. AppendsItem c.0 b ws r b' ws';
  done = λ c b ws v ws' e. record { item = e; buffer = refl };
  refused = λ c b ws d ws' e. record { item = e; buffer = refl };
}

abbrev pub appending : Pairing (one node)
appending = record { way = counted counting; step = appended node-id }

abbrev pub appending-item : Pairing none
appending-item = record { way = relisted listing; step = appended list-of }
