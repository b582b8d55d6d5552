-- peek, take, consume_optional and consume, as `Forms.antt` has what they differ in.
use mathlib.Core.Path.{◌≡◌, refl, ap}
use mir.Syntax.{w8, w32}
use denote.Struct.Laws as LL
use Rattle.walks.proofs.Extra.{none, one, two}
use Rattle.walks.proofs.Plain.{Pair, number, struct}
use Rattle.codes.specs.Words.{Quiet}
use Rattle.tokens.specs.Answer.{kind_in, consumed, consuming, Taking, Optionally}
use Rattle.tokens.specs.contracts.Taken as K
use Rattle.tokens.proofs.Taken.TheLaws as K'
use Rattle.reader.specs.declared.Tokens.{Tokens}
use Rattle.reader.specs.Answer.{moved, kinds_of, place, Looks, Takes, Tries, Consumes}
use Rattle.reader.proofs.Forms.{Pairing, Look, looked, Trial, Expectation, cursor}
use Rattle.reader.proofs.Laws.{expects}

abbrev taken : Pair (number w8) cursor
taken = record {
  name = (K.the_type).name;
  row = K.the_row;
  fst = λ s. s.kind;
  snd = λ s. s.cursor;
  make = λ k c. record { kind = k; cursor = c };
  made = λ k c Q e. e;
  tells = LL.tells K.the_type K'.the_laws;
  parts = λ s vs is. ((LL.owed K.the_type K'.the_laws s vs is).0, (LL.owed K.the_type K'.the_laws s vs is).1.0);
  whole = λ k c is is'. LL.owes K.the_type K'.the_laws (record { kind = k; cursor = c }) (is, (is', tt));
  typed = (struct K.the_type K'.the_laws K'.the_plain K'.the_copy).typed;
  makes = (struct K.the_type K'.the_laws K'.the_plain K'.the_copy).makes;
}

abbrev pub looking : Look none
looking = record { answer = number w8; Shows = λ h x k. k ≡ kind_in (kinds_of h) (place h) }

abbrev pub peeking : Pairing none
peeking = record {
  way = looked looking;
  step = taken;
  Says = λ ks c x s. Looks ks c s;
  so = λ h x s e. (e.kind, ap (moved h) e.cursor);
  back = λ h x k h' e. record { kind = e.0; cursor = ap (λ (t : Tokens). t.cursor) e.1 };
}

abbrev pub taking : Pairing none
taking = record {
  way = record { answer = number w8; Gives = λ h x k h'. Takes h k h' };
  step = taken;
  Says = λ ks c x s. Taking ks c.0 s;
  so = λ h x s e. record { row = refl; taken = e };
  back = λ h x k h' e. e.taken;
}

abbrev pub trying : Trial (one (number w8))
trying = record {
  Says = λ ks c k r. Optionally ks k c.0 r;
  Gives = λ h k b h'. Tries h k b h';
  there = λ h k p e. record { row = refl; found = e.found; cursor = e.cursor };
  missing = λ h k e. record { row = refl; found = e.found; cursor = e.cursor };
}

-- the node count, and the kind expected
abbrev pub expecting : Expectation (two (number w32) (number w8))
expecting = record {
  Says = λ ks c x r. Quiet consumed (consuming x.1) ks c.0 x.0 r;
  Gives = λ h x r h'. Consumes h x.1 x.0 r h';
  read = λ h x p e. expects h x.1 x.0 e;
  refused = λ h x d e. expects h x.1 x.0 e;
}
