-- How texts that are put one after the other make one.
use Rattle.std.proofs.Common.{◌≡◌, ℕ, zero, suc, ◌+◌, ◌-◌, ◌*◌, ◌≤◌, ◌<◌, List, [], ◌∷◌, ◌++◌, length, take, drop, get_or, refl, sym, ◌∙◌, ap, subst, arith, add-one, Bool, true, false, cond, ltb, ◌/◌, ◌%◌, append_assoc, append-nil, length-append}
use Rattle.std.proofs.Math.Seq.{drop-drop}
use Rattle.std.specs.Prelude.{Ok, Err}
use Rattle.std.specs.Fmt.{decimal as std_decimal}
use Rattle.codes.specs.declared.NodeId.{NodeId}
use Rattle.codes.specs.declared.Read.{Read}
use Rattle.codes.specs.declared.ParsingError.{ParsingError}
use Rattle.codes.specs.Answer.{ParseResult, nodes}
use Rattle.rules.specs.Columns.{Nodes}
use Rattle.node_text.specs.declared.TextBuffer.{TextBuffer}
use Rattle.node_text.specs.Text.{decimal_in, decimal, byte_number, word, two, reply, state_text, line, lines}
use Rattle.node_text.specs.Puts.{Puts, Room, Adds}
use Rattle.node_text.proofs.Decimal.{same_decimal}

-- what is kept from a place on is kept from any place after it
further : (xs ys : List ℕ) (mid k : ℕ) → drop mid ys ≡ drop mid xs → drop (mid + k) ys ≡ drop (mid + k) xs
further xs ys mid k e = sym (drop-drop k mid ys) ∙ ap (drop k) e ∙ drop-drop k mid xs

-- nothing, and a text after a text
pub nothing_put : (x : TextBuffer) → Adds x [] x
nothing_put x = record {
  same = refl;
  puts = record {
    size = refl;
    place = omega arith;
    start = sym (append-nil (take x.end x.bytes.now));
    rest = refl;
  };
}

one-put :
    {xs ys zs t u : List ℕ} {at mid end : ℕ} → Puts xs at t ys mid → Puts ys mid u zs end → Puts xs at (t ++ u) zs end
one-put {xs} {ys} {t = t} {u} {at} {mid} f g =
    let l = length-append t u in
    let p = f.place in
    let q = g.place in
    record {
      size = g.size ∙ f.size;
      place = omega arith;
      start = g.start ∙ ap (λ (s : List ℕ). s ++ u) f.start ∙ append_assoc (take at xs) t u;
      rest = g.rest ∙ subst (λ (n : ℕ). drop n ys ≡ drop n xs) (sym q) (further xs ys mid (length u) f.rest);
    }

pub then : {x y z : TextBuffer} {t u : List ℕ} → Adds x t y → Adds y u z → Adds x (t ++ u) z
then f g = record { same = g.same ∙ f.same; puts = one-put f.puts g.puts }

-- the room for the first text of two, and for the second one after it
module _ (t u : List ℕ) {xs : List ℕ} {at : ℕ} (h : Room xs at (length (t ++ u))) where
  pub first-room : Room xs at (length t)
  first-room =
      let l = length-append t u in
      let r = h.there in
      record { there = omega arith }

  pub next-room : {ys : List ℕ} {mid : ℕ} → Puts xs at t ys mid → Room ys mid (length u)
  next-room f =
      let l = length-append t u in
      let r = h.there in
      let s = f.size in
      let p = f.place in
      record { there = omega arith }

pub less-room : {xs : List ℕ} {at m k : ℕ} → Room xs at k → m ≤ k → Room xs at m
less-room f h = let r = f.there in record { there = omega arith }

-- how long the texts are
short-by :
    {most : ℕ} (small : Bool) (a b : ℕ) (t : List ℕ) → length t ≤ most →
    length (cond small (a ∷ []) (t ++ b ∷ [])) ≤ suc most
short-by true a b t h = omega arith
short-by false a b t h = let e = length-append t (b ∷ []) in omega arith

decimal-in-short : (most n : ℕ) → length (decimal_in most n) ≤ most
unfolding decimal_in
decimal-in-short zero n = omega arith
decimal-in-short (suc most) n =
    short-by (ltb n 10) _ (48 + n % 10) (decimal_in most (n / 10)) (decimal-in-short most (n / 10))

after-short : (b n : ℕ) → length (byte_number b n) ≤ 11
after-short b n = let h = decimal-in-short 10 n in omega arith

two-short : (m n : ℕ) → length (two m n) ≤ 22
unfolding two
two-short m n =
    let e = length-append (byte_number 32 m) (byte_number 32 n) in
    let f = after-short 32 m in
    let g = after-short 32 n in
    omega arith

state-short : (cursor count : ℕ) → length (state_text cursor count) ≤ 23
state-short cursor count =
    let e = length-append (two cursor count) (10 ∷ []) in
    let f = two-short cursor count in
    omega arith

word-short : (a b n : ℕ) → length (word a b n) ≤ 13
unfolding word
word-short a b n = let h = after-short 32 n in omega arith

line-short : (n k l : ℕ) → length (line n k l) ≤ 33
unfolding line
line-short n k l =
    let e = length-append (decimal n) (two k l) in
    let f = length-append (decimal n ++ two k l) (10 ∷ []) in
    let h = decimal-in-short 10 n in
    let i = two-short k l in
    omega arith

pub reply-short : (r : ParseResult (Read NodeId)) → length (reply r) ≤ 64
unfolding reply
reply-short (Ok read) =
    let a = length-append (word 111 107 read.value.0) (state_text read.cursor.0 read.count) in
    let b = word-short 111 107 read.value.0 in
    let c = state-short read.cursor.0 read.count in
    omega arith
reply-short (Err error) =
    let a = length-append (word 110 111 error.number) (two error.start.0 error.end.0) in
    let b =
    length-append (word 110 111 error.number ++ two error.start.0 error.end.0) (state_text error.cursor.0 error.count) in
    let c = word-short 110 111 error.number in
    let d = two-short error.start.0 error.end.0 in
    let e = state-short error.cursor.0 error.count in
    omega arith

-- a number in decimal
module _ (n : ℕ) (h : n < 4294967296) {digits bytes : List ℕ} (e : digits ≡ std_decimal n) (f : bytes ≡ digits) where
  pub digits-room : {xs : List ℕ} {at : ℕ} → Room xs at (length (decimal n)) → Room xs at (length bytes)
  digits-room r = rw (f, e, same_decimal n h) r

  pub digits-put : {x y : TextBuffer} → Adds x bytes y → Adds x (decimal n) y
  digits-put a = rw (f, e, same_decimal n h) at a

-- the reply, by its case: what is put of it one after the other
module _ (read : Read NodeId) where
  accepted : List ℕ
  accepted = word 111 107 read.value.0

  module _ {xs : List ℕ} {at : ℕ} (h : Room xs at 64) where
    accepted-room : Room xs at (length (accepted ++ state_text read.cursor.0 read.count))
    unfolding reply accepted
    accepted-room = less-room h (reply-short (Ok read))

    pub root-room : Room xs at (length (111 ∷ 107 ∷ byte_number 32 read.value.0))
    unfolding word accepted
    root-room = first-room accepted (state_text read.cursor.0 read.count) accepted-room

    pub accepted-state-room :
        {ys : List ℕ} {mid : ℕ} → Puts xs at (111 ∷ 107 ∷ byte_number 32 read.value.0) ys mid →
        Room ys mid (length (state_text read.cursor.0 read.count))
    unfolding word accepted
    accepted-state-room f = next-room accepted (state_text read.cursor.0 read.count) accepted-room f

  pub accepted-put :
      {r : ParseResult (Read NodeId)} → r ≡ Ok read → {x y z : TextBuffer} →
      Adds x (111 ∷ 107 ∷ byte_number 32 read.value.0) y → Adds y (state_text read.cursor.0 read.count) z →
      Adds x (reply r) z
  unfolding reply word
  accepted-put e f g = rw e (then f g)

module _ (error : ParsingError) where
  refused : List ℕ
  refused = word 110 111 error.number

  ends : List ℕ
  ends = two error.start.0 error.end.0

  module _ {xs : List ℕ} {at : ℕ} (h : Room xs at 64) where
    refused-room : Room xs at (length (refused ++ ends ++ state_text error.cursor.0 error.count))
    unfolding reply refused ends
    refused-room = less-room h (reply-short (Err error))

    ends_room : Room xs at (length (refused ++ ends))
    ends_room = first-room (refused ++ ends) (state_text error.cursor.0 error.count) refused-room

    pub number-room : Room xs at (length (110 ∷ 111 ∷ byte_number 32 error.number))
    unfolding word refused
    number-room = first-room refused ends ends_room

    module _ {ys : List ℕ} {mid : ℕ} (f : Puts xs at (110 ∷ 111 ∷ byte_number 32 error.number) ys mid) where
      pub ends-room : Room ys mid (length (two error.start.0 error.end.0))
      unfolding word refused ends
      ends-room = next-room refused ends ends_room f

      pub refused-state-room :
          {zs : List ℕ} {end : ℕ} → Puts ys mid (two error.start.0 error.end.0) zs end →
          Room zs end (length (state_text error.cursor.0 error.count))
      unfolding word refused ends
      refused-state-room g =
          next-room (refused ++ ends) (state_text error.cursor.0 error.count) refused-room (one-put f g)

  pub refused-put :
      {r : ParseResult (Read NodeId)} → r ≡ Err error → {x y z v : TextBuffer} →
      Adds x (110 ∷ 111 ∷ byte_number 32 error.number) y → Adds y (two error.start.0 error.end.0) z →
      Adds z (state_text error.cursor.0 error.count) v → Adds x (reply r) v
  unfolding reply word
  refused-put e f g h = rw e (then (then f g) h)

-- the lines of nodes
pub no_lines : (s : Nodes) (x : TextBuffer) → Adds x (lines s 0) x
unfolding lines
no_lines s x = nothing_put x

pub all_lines :
    (s : Nodes) {n count : ℕ} → n ≤ count → count ≤ n → {x y : TextBuffer} → Adds x (lines s n) y →
    Adds x (lines s count) y
all_lines s {n} {count} h b f = let e : count ≡ n = omega arith in rw e f

module _ {count : ℕ} {xs : List ℕ} {at : ℕ} (n : ℕ) (b : n < count) (h : Room xs at (33 * (count - n))) where
  pub line-room : (k l : ℕ) → Room xs at (length (line n k l))
  line-room k l = let s = line-short n k l in less-room h (omega arith)

  pub lines-room :
      (k l : ℕ) {ys : List ℕ} {end : ℕ} → Puts xs at (line n k l) ys end → Room ys end (33 * (count - (n + 1)))
  lines-room k l f =
      let s = line-short n k l in
      let r = h.there in
      let p = f.place in
      let q = f.size in
      record { there = omega arith }

pub lines-put :
    (ks ls : List ℕ) (count n : ℕ) {x y z : TextBuffer} → Adds x (lines (nodes ks ls count) n) y →
    Adds y (line n (get_or ks n 0) (get_or ls n 0)) z → Adds x (lines (nodes ks ls count) (n + 1)) z
unfolding lines
lines-put ks ls count n f g = rw (add-one n) (then f g)
