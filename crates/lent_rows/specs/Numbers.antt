-- The answers as numbers: a refusal's five; of an acceptance number 0, its root or kind, the cursor and the node count.
use Rattle.std.specs.Prelude.{ℕ, List, cond, eqb, codes, Ok, Err}
use Rattle.codes.specs.declared.NodeId.{NodeId}
use Rattle.codes.specs.declared.ParsingError.{ParsingError}
use Rattle.codes.specs.declared.Read.{Read}
use Rattle.codes.specs.declared.TokenId.{TokenId}
use Rattle.codes.specs.Answer.{ParseResult}
use Rattle.tokens.specs.declared.Taken.{Taken}
use Rattle.show.specs.Shown.{with_number}
use Rattle.lent_rows.specs.declared.answers.Numbers.{Numbers}

abbrev pub accepted : ℕ → TokenId → ℕ → Numbers
accepted root cursor count = record { number = 0; start = root; end = root; cursor = cursor.0; count = count }

abbrev pub of_refusal : ParsingError → Numbers
of_refusal e =
    record { number = e.number; start = e.start.0; end = e.end.0; cursor = e.cursor.0; count = e.count }

abbrev pub of_taken : Taken → Numbers
of_taken t = accepted t.kind t.cursor 0

abbrev pub of_parsed : ParseResult (Read NodeId) → Numbers
of_parsed (Ok v) = accepted v.value.0 v.cursor v.count
of_parsed (Err e) = of_refusal e

-- of a token that was expected, whose acceptance has no root and no count
abbrev pub of_consumed : ParseResult TokenId → Numbers
of_consumed (Ok p) = accepted 0 p 0
of_consumed (Err e) = of_refusal e

-- `ok` and the cursor, or `no` and number, start, end and cursor
abbrev pub text : Numbers → List ℕ
text n =
    cond (eqb n.number 0) (with_number (codes "ok") n.cursor)
    (with_number (with_number (with_number (with_number (codes "no") n.number) n.start) n.end) n.cursor)
