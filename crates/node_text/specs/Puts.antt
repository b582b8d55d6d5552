-- Text that is put into a buffer.
use Rattle.std.specs.Prelude.{ℕ, ◌+◌, ◌≤◌, List, ◌++◌, ◌≡◌, length, take, drop}
use Rattle.node_text.specs.declared.TextBuffer.{TextBuffer}

-- From the place at on, the text is put into the buffer, and the place after it is end. What stands before and after it
-- is kept.
pub record Puts (before : List ℕ) (at : ℕ) (text after : List ℕ) (end : ℕ) : Type 0 where
  pub size : length after ≡ length before
  pub place : end ≡ at + length text
  pub start : take end after ≡ take at before ++ text
  pub rest : drop end after ≡ drop end before

-- From the place at on there is room for so many bytes.
pub record Room (buffer : List ℕ) (at bytes : ℕ) : Type 0 where
  pub there : at + bytes ≤ length buffer

-- The same of a buffer with the place after its text: the text is put there, and the buffer is still the one that was
-- lent.
pub record Adds (before : TextBuffer) (text : List ℕ) (after : TextBuffer) : Type 0 where
  pub same : after.bytes.ghost_name ≡ before.bytes.ghost_name
  pub puts : Puts before.bytes.now before.end text after.bytes.now after.end

abbrev pub HasRoom : TextBuffer → ℕ → Type 0
HasRoom buffer bytes = Room buffer.bytes.now buffer.end bytes
