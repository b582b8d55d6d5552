-- Decimal numbers in a line.
use Rattle.std.specs.Prelude.{ℕ, ◌+◌, ◌-◌, ◌*◌, ◌≤◌, ◌<◌, cond, List, [], ◌∷◌, eqb, ltb, length, take, drop}
use Rattle.std.specs.Prelude.{Result, Ok, Err}
use Rattle.std.specs.Char.{is_ascii_digit}
use Rattle.std.specs.List.{fold, prefix_len}
use Rattle.lines.specs.Line.{Within}

-- the value of a byte that is a digit
abbrev pub value_of_digit : ℕ → ℕ
value_of_digit byte = byte - 48

-- how many digits begin a line
abbrev pub digits_in : List ℕ → ℕ
digits_in line = prefix_len is_ascii_digit line

-- the value of digits
abbrev pub value_of : List ℕ → ℕ
value_of digits = fold (λ value byte. value * 10 + value_of_digit byte) 0 digits

-- how many of these digits, which follow a value, are read of a number: up to the first one by which it is above `most`
unfoldable pub read_until : ℕ → ℕ → List ℕ → ℕ
read_until most value [] = 0
read_until most value (digit ∷ digits) =
    cond (ltb most value) 0 (1 + read_until most (value * 10 + value_of_digit digit) digits)

-- a number, and what stands after it
pub record Decimal : Type 0 where
  pub value : ℕ
  pub rest : List ℕ

abbrev pub decimal : ℕ → List ℕ → Decimal
decimal value rest = record { value = value; rest = rest }

-- the number of the first so many bytes of a line; where there is none that is at most `most`, what stands after the
-- bytes that were read
abbrev pub decimal_of : List ℕ → ℕ → ℕ → Result Decimal (List ℕ)
decimal_of line most n =
    cond (eqb n 0)
    (Err line)
    (cond (ltb most (value_of (take n line)))
    (Err (drop (read_until most 0 (take n line)) line))
    (Ok (decimal (value_of (take n line)) (drop n line))))

-- the number at the beginning of a line: all the digits there
abbrev pub number_at : List ℕ → ℕ → Result Decimal (List ℕ)
number_at line most = decimal_of line most (digits_in line)

-- a number at the beginning of a line has a digit, ends within the line, and is at most `most`
pub record Numbered (line : List ℕ) (most number : ℕ) (rest : List ℕ) : Type 0 where
  pub low : length rest < length line
  pub within : Within line rest
  pub value : number ≤ most
