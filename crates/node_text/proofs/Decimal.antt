-- The decimal text of std is the one of specs/Text.antt.
use Rattle.std.proofs.Common.{◌≡◌, ℕ, ◌<◌, refl, sym, arith, lt-ltb, le-ltb}
use Rattle.std.proofs.lemmas.Fmt.{AppendsLastDigit, decimal_from_appends, length-decimal-le}
use Rattle.std.specs.Fmt.{decimal as std_decimal}
use Rattle.node_text.specs.Text.{decimal_in, decimal}

appends : AppendsLastDigit decimal_in
unfolding decimal_in
appends = record {
  one = λ k n h. rw (lt-ltb n 10 h) refl;
  more = λ k n h. rw (le-ltb n 10 h) refl;
}

pub same_decimal : (n : ℕ) → n < 4294967296 → std_decimal n ≡ decimal n
same_decimal n h =
    sym (decimal_from_appends decimal_in appends 10 n (omega arith) (length-decimal-le 10 n (omega arith) (omega arith) (omega arith)))
