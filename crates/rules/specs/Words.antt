-- The builder of words: one word a node, its kind in the low 8 bits and its load above.
use Rattle.std.specs.Prelude.{ℕ, ◌+◌, ◌*◌, ◌/◌, ◌%◌, ◌≤◌, ◌<◌, ◌≡◌, List, length, get_or, set, ltb}
use Rattle.std.proofs.Math.Option.{Option}
use Rattle.rules.specs.Codes.{pick}
use Rattle.rules.specs.Codes.Limit as Limit
use Rattle.rules.specs.Codes.ParseNode as ParseNode
use Rattle.rules.specs.Codes.Refusal as Refusal
use Rattle.rules.specs.Reading.{Rule, ok, no}
use Rattle.rules.specs.Builder.{Builder}
use Rattle.rules.specs.Lists.{Ends}
use Rattle.rules.specs.Lists as Lists
use Rattle.rules.specs.Columns.{Nodes}
use Rattle.rules.specs.Ways.{kind_at, load_at}
use Rattle.rules.specs.Demand.{Paired}

-- one column, whose length is the slots, of which count are used
pub record Words : Type 0 where
  pub words : List ℕ
  pub count : ℕ

abbrev pub word_at : Words → ℕ → ℕ
word_at w n = get_or w.words n 0

-- a node as a word, and the kind and the load of a word
abbrev pub packed : ℕ → ℕ → ℕ
packed kind load = kind + 256 * load

abbrev pub word_kind : ℕ → ℕ
word_kind word = word % 256

abbrev pub word_load : ℕ → ℕ
word_load word = word / 256

-- the words with node n anew, and so many nodes
abbrev pub written : Words → ℕ → ℕ → ℕ → ℕ → Words
written s n kind load count = record { words = set s.words n (packed kind load); count = count }

unfoldable pub append : ℕ → ℕ → Rule Words ℕ
append kind load c s =
    pick (ltb s.count (length s.words))
    (record { result = ok s.count; cursor = c; state = written s s.count kind load (s.count + 1) })
    (record { result = no Refusal.NoSlot c c; cursor = c; state = s })

unfoldable pub patch : ℕ → ℕ → Rule Words (Unit {0})
patch item next c s = record { result = ok tt; cursor = c; state = written s item ParseNode.ListItem next s.count }

abbrev pub push_list_item : Option Ends → Rule Words (Option Ends)
push_list_item = Lists.push_list_item append patch

abbrev pub push_end_of_list : Option Ends → Rule Words ℕ
push_end_of_list = Lists.push_end_of_list append patch

abbrev pub words : Builder
words = Lists.builder append patch

-- Packing and unpacking undo each other: a kind, a load and a word come back as they were.
pub record Exact : Type 0 where
  pub kind : (k l : ℕ) → k < 256 → word_kind (packed k l) ≡ k
  pub load : (k l : ℕ) → k < 256 → word_load (packed k l) ≡ l
  pub word : (w : ℕ) → packed (word_kind w) (word_load w) ≡ w
  -- within 32 bits
  pub fits : (k l : ℕ) → k < 256 → l ≤ Limit.Load → packed k l < 4294967296
  pub small : (w : ℕ) → w < 4294967296 → (word_kind w < 256) × (word_load w ≤ Limit.Load)

-- as many slots and as many nodes, whatever stands in them
pub record Alongside (s : Nodes) (w : Words) : Type 0 where
  pub count : w.count ≡ s.count
  pub size : length w.words ≡ length s.kinds
  pub even : length s.loads ≡ length s.kinds

-- The nodes from base on are the same, a word each, with kinds that fit a byte. Every other word is that of v.
pub record Packed (base : ℕ) (v : Words) (s : Nodes) (w : Words) : Type 0 where
  pub along : Alongside s w
  pub grew : base ≤ s.count
  pub fits : s.count ≤ length s.kinds
  pub nodes :
      (m : ℕ) → base ≤ m → m < s.count → (kind_at s m < 256) × (word_at w m ≡ packed (kind_at s m) (load_at s m))
  pub below : (m : ℕ) → m < base → word_at w m ≡ word_at v m
  pub above : (m : ℕ) → s.count ≤ m → word_at w m ≡ word_at v m

-- A rule with columns and with words: from any columns and any words of as many slots and nodes the replies are equal,
-- and so are the nodes appended since, refusals too.
abbrev pub Agrees : Rule Nodes ℕ → Rule Words ℕ → Type 0
Agrees m q =
    (s : Nodes) (w : Words) (c : ℕ) → Paired s → Alongside s w →
    ((q c w).result ≡ (m c s).result) × ((q c w).cursor ≡ (m c s).cursor) ×
    Packed s.count w (m c s).state (q c w).state
