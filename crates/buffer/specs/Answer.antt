-- What append and append_item answer, and what they leave in the record and in the words: by the definitions of crate
-- nodes.
use Rattle.std.specs.Prelude.{ℕ, List, ◌≡◌, Ok, Err}
use Rattle.rules.specs.Words.{append, push_list_item}
use Rattle.codes.specs.declared.NodeId.{NodeId}
use Rattle.codes.specs.declared.Read.{Read}
use Rattle.codes.specs.Answer.{ParseResult}
use Rattle.codes.specs.Words.{As, Gives, nodes}
use Rattle.nodes.specs.declared.ActiveList.{ActiveList}
use Rattle.nodes.specs.Answer.{listed, ends}
use Rattle.buffer.specs.declared.ParseBuffer.{ParseBuffer}

-- the record after a node: as many nodes as the answer says; a refusal leaves it as it was
abbrev pub counted : ParseBuffer → ParseResult (Read NodeId) → ParseBuffer
counted b (Ok node) = record { count = node.count; list = b.list }
counted b (Err error) = b

-- the record after an item: as many nodes as the answer says, and its list; a refusal leaves it as it was
abbrev pub relisted : ParseBuffer → ParseResult (Read ActiveList) → ParseBuffer
relisted b (Ok item) = record { count = item.count; list = item.value }
relisted b (Err error) = b

-- From the record b and the words ws: r is answered, and b' and ws' are left.
module _ (c : ℕ) (b : ParseBuffer) (ws : List ℕ) where
  pub record Appends (kind load : ℕ) (r : ParseResult (Read NodeId)) (b' : ParseBuffer) (ws' : List ℕ) : Type 0 where
    pub node : Gives (append kind load) c (nodes ws b.count) r ws'
    pub buffer : b' ≡ counted b r

  pub record AppendsItem (r : ParseResult (Read ActiveList)) (b' : ParseBuffer) (ws' : List ℕ) : Type 0 where
    pub item : As listed (push_list_item (ends b.list)) c (nodes ws b.count) r ws'
    pub buffer : b' ≡ relisted b r
