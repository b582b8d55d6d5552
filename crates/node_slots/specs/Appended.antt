-- What is printed of the nodes that a call appended.
use Rattle.std.specs.Prelude.{ℕ, ◌+◌, ◌-◌, ◌*◌, ◌%◌, min, cond, List, ◌++◌, length, take, drop, ltb, codes, decimal}
use Rattle.std.specs.List.{fold, zip}
use Rattle.codes.specs.declared.Node.{Node}
use Rattle.show.specs.Shown.{nodes_in, nodes_text}

-- the checksum with one more number
abbrev pub mix : ℕ → ℕ → ℕ
mix sum more = (sum % 4294967291 * 65537 + more % 4294967291) % 4294967291

-- the checksum over the kind and the load of each node
abbrev pub checksum : List ℕ → List ℕ → ℕ
checksum kinds loads = fold (λ sum node. mix (mix sum node.0) node.1) 0 (zip kinds loads)

-- the nodes' number and checksum where there are many, else the nodes one by one
abbrev pub text_of : List Node → ℕ → List ℕ
text_of nodes sum =
    cond (ltb 512 (length nodes))
    (codes ", nodes " ++ (decimal (length nodes) ++ (codes ", checksum " ++ decimal sum)))
    (nodes_text nodes)

abbrev pub appended_text : List ℕ → List ℕ → List ℕ
appended_text kinds loads = text_of (nodes_in kinds loads) (checksum kinds loads)

-- where the appended nodes end, as far as both columns have slots
abbrev pub end_of : ℕ → List ℕ → List ℕ → ℕ
end_of replied kinds loads = min (min replied (length kinds)) (length loads)

-- the slots of a column from the given count up to where the appended nodes end
abbrev pub appended_slots : ℕ → ℕ → List ℕ → List ℕ
appended_slots given end column = take (end - min given end) (drop (min given end) column)
