-- What penne-nodes writes for each input. The entries' promises, and so the three demands, hold of the parse in it.
use Rattle.std.specs.Prelude.{ℕ, List, ◌++◌, ◌≡◌}
use Rattle.codes.specs.Answer.{answer, count_of, parsed}
use Rattle.penne.specs.Promise.{Parsed}
use Rattle.rules.specs.Codes.{pick}
use Rattle.rules.specs.Reading.{Outcome}
use Rattle.rules.specs.Columns.{Nodes}
use Rattle.penne_nodes.specs.Input.{bad, asked, cursor_in}
use Rattle.node_text.specs.Puts.{Puts}
use Rattle.node_text.specs.Text.{bad_file, reply, lines}

-- the reply, and the nodes in the columns s
abbrev pub parse : Parsed → Nodes → List ℕ
parse r s = reply r ++ lines s (count_of r)

-- the text of an outcome
abbrev pub shown : Outcome Nodes ℕ → List ℕ
shown p = parse (answer parsed p.result p.cursor p.state.count) p.state

-- the text for an input, with the node columns s
unfoldable pub output : List ℕ → Nodes → List ℕ
output bytes s = pick (bad bytes) bad_file (shown (asked bytes (cursor_in bytes) s))

-- the node columns after it: those of the parse, or as they were if the file is bad
unfoldable pub columns_after : List ℕ → Nodes → Nodes
columns_after bytes s = pick (bad bytes) s (asked bytes (cursor_in bytes) s).state

-- What is left for an input and the node columns s: the text at the start of the buffer, whose rest is kept, with its
-- end; and the node columns ks and ls.
pub record Answers (bytes : List ℕ) (s : Nodes) (before after : List ℕ) (end : ℕ) (ks ls : List ℕ) : Type 0 where
  pub text : Puts before 0 (output bytes s) after end
  pub kinds : ks ≡ (columns_after bytes s).kinds
  pub loads : ls ≡ (columns_after bytes s).loads
