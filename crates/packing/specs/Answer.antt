-- What pack and unpack answer, for every input.
use Rattle.std.specs.Prelude.{ℕ, ltb, Ok, Err}
use Rattle.codes.specs.declared.Node.{Node}
use Rattle.codes.specs.Answer.{ParseResult, refusal}
use Rattle.rules.specs.Codes.{pick}
use Rattle.rules.specs.Codes.Limit as Limit
use Rattle.rules.specs.Codes.Refusal as Refusal
use Rattle.rules.specs.Words.{packed, word_kind, word_load}

-- a word, or refusal 56, all of whose other values are 0
abbrev pub packing : ℕ → ℕ → ParseResult ℕ
packing kind load =
    let too_large = refusal Refusal.LoadTooLarge 0 0 0 0 in
    pick (ltb Limit.Load load) (Err too_large) (Ok (packed kind load))

abbrev pub unpacking : ℕ → Node
unpacking word = record { 0 = word_kind word; 1 = word_load word }
