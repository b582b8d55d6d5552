-- What is shown of a reply and of nodes.
use Rattle.std.specs.Prelude.{ℕ, List, ◌++◌, map, codes, decimal, Ok, Err}
use Rattle.std.specs.List.{flat_map, zip}
use Rattle.rules.specs.Words.{word_kind, word_load}
use Rattle.codes.specs.Answer.{ParseResult}
use Rattle.codes.specs.declared.Node.{Node}
use Rattle.codes.specs.declared.NodeId.{NodeId}
use Rattle.codes.specs.declared.Read.{Read}

-- a text with a space and a number behind it
abbrev pub with_number : List ℕ → ℕ → List ℕ
with_number text n = text ++ (codes " " ++ decimal n)

-- `ok`, root, cursor and count; or `no`, number, start, end, cursor and count
abbrev pub reply_text : ParseResult (Read NodeId) → List ℕ
reply_text (Ok v) = with_number (with_number (with_number (codes "ok") v.value.0) v.cursor.0) v.count
reply_text (Err e) =
    with_number (with_number (with_number (with_number (with_number (codes "no") e.number) e.start.0) e.end.0)
    e.cursor.0) e.count

-- a comma, the kind and the load
abbrev pub node_text : Node → List ℕ
node_text node = codes ", " ++ (decimal node.0 ++ (codes " " ++ decimal node.1))

abbrev pub nodes_text : List Node → List ℕ
nodes_text nodes = flat_map node_text nodes

-- the node in a word
abbrev pub node_of : ℕ → Node
node_of word = record { 0 = word_kind word; 1 = word_load word }

-- the nodes in two columns, as far as both have slots
abbrev pub node_in : ℕ × ℕ → Node
node_in slots = record { 0 = slots.0; 1 = slots.1 }

abbrev pub nodes_in : List ℕ → List ℕ → List Node
nodes_in kinds loads = map node_in (zip kinds loads)
