-- Columns beside trees: a list of any contents that is begun, added to and closed.
use Prim.Native.Nat.{ℕ, ◌+◌, ◌-◌}
use native.Mathlib.Omega.{arith}
use mathlib.Core.Path.{◌≡◌, refl, sym}
use mathlib.Core.List.{List, [], ◌∷◌}
use mathlib.Core.Option.{Option, some, none}
use borrow.Author.Tests.{le-leb}
use Rattle.rules.specs.Reading.{◌>>=◌, pure}
use Rattle.rules.specs.Trees.{Tree, node, fnil, items}
use Rattle.rules.specs.Codes.ParseNode as ParseNode
use Rattle.rules.specs.Lists.{Ends, extended, ended}
use Rattle.rules.specs.Lists as Lists
use Rattle.rules.specs.Columns.{Nodes, append, patch, push_list_item, push_end_of_list}
use Rattle.rules.specs.Ways.{parts}
use Rattle.rules.proofs.Ways.{Numbered, numbered, rnil, rcons, root, strip, Stands, times}
use Rattle.rules.proofs.Laid.{Claim, nothing, cell, tree, ◌⋆◌, holds, counts, On, turn, appended, patched, framed}
use Rattle.rules.proofs.Sim.{Sim, Via, ◌then◌}
use Rattle.rules.proofs.Grow.{Beside, At, append-sim}

-- the item n, not yet patched
abbrev pub unpatched : ℕ → Claim
unpatched n = cell n ParseNode.UnpatchedListItem 0

-- items with these contents, the last one first, which links to the node p: each stands after its content
abbrev pub chain : List Numbered → ℕ → Claim
chain [] p = nothing
chain (t ∷ ts) p = cell (root t + 1) ParseNode.ListItem p ⋆ (tree t ⋆ chain ts (root t + 1))

-- the same, the last one not yet patched
abbrev pub opened : List Numbered → Claim
opened [] = nothing
opened (t ∷ ts) = unpatched (root t + 1) ⋆ (tree t ⋆ chain ts (root t + 1))

abbrev pub first : ℕ → List Numbered → ℕ
first p [] = p
first p (t ∷ ts) = first (root t + 1) ts

abbrev pub ends : List Numbered → Option Ends
ends [] = none
ends (t ∷ ts) = some (record { first = first (root t + 1) ts; last = root t + 1 })

abbrev pub contents : List Numbered → List Tree
contents [] = []
contents (t ∷ ts) = strip t ∷ contents ts

-- the tree of the items before the end
chained : List Numbered → Numbered → Numbered
chained [] end = end
chained (t ∷ ts) end = chained ts (numbered (root t + 1) ParseNode.ListItem 0 (rcons t (rcons end rnil)))

chained-root : (ts : List Numbered) (end : Numbered) → root (chained ts end) ≡ first (root end) ts
unfolding chained
chained-root [] end = refl
chained-root (t ∷ ts) end = chained-root ts (numbered (root t + 1) ParseNode.ListItem 0 (rcons t (rcons end rnil)))

chained-strip : (ts : List Numbered) (end : Numbered) → strip (chained ts end) ≡ items (contents ts) (strip end)
unfolding chained
chained-strip [] end = refl
chained-strip (t ∷ ts) end = chained-strip ts (numbered (root t + 1) ParseNode.ListItem 0 (rcons t (rcons end rnil)))

chained-stands :
    (s : Nodes) (ts : List Numbered) (end : Numbered) →
    holds (chain ts (root end)) s → Stands s end → Stands s (chained ts end)
unfolding chained parts
chained-stands s [] end h e = e
chained-stands s (t ∷ ts) end h e =
    let d : root t + 1 - 1 ≡ root t = omega arith in
    chained-stands s ts (numbered (root t + 1) ParseNode.ListItem 0 (rcons t (rcons end rnil))) h.1.1
    (h.0.0, refl, rw (h.0.0, h.0.1, le-leb 1 (root t + 1) (omega arith), d), (h.1.0, (e, tt)))

chained-times :
    (ts : List Numbered) (end : Numbered) (m : ℕ) →
    times (chained ts end) m ≡ times end m + counts (chain ts (root end)) m
unfolding chained
chained-times [] end m = omega arith
chained-times (t ∷ ts) end m =
    omega (arith, chained-times ts (numbered (root t + 1) ParseNode.ListItem 0 (rcons t (rcons end rnil))) m)

module _ {o : Nodes} {F : Claim} where
  extended-beside :
      (ts : List Numbered) (t : Numbered) →
      Sim (Beside o) (λ _ s _. On o (unpatched (root t + 1) ⋆ (tree t ⋆ (opened ts ⋆ F))) s)
      (Via ends contents (λ us. At o [] (opened us ⋆ F)))
      (extended append patch (ends ts) (root t + 1)) (pure (strip t ∷ contents ts))
  unfolding extended patch ◌>>=◌
  extended-beside [] t = record {
    run = λ c c' s s' e k h.
        let on = turn {G = opened (t ∷ []) ⋆ F} (λ x. ((x.0, (x.1.0, tt)), x.1.1.1)) (λ m. omega arith) h in
        (e, k, (t ∷ [], refl, refl, record { on = on; placed = tt }));
  }
  extended-beside (u ∷ us) t = record {
    run = λ c c' s s' e k h.
        let moved = turn
        {G = unpatched (root u + 1) ⋆ (unpatched (root t + 1) ⋆ (tree t ⋆ (tree u ⋆ (chain us (root u + 1) ⋆ F))))}
        (λ x. (x.1.1.0.0, (x.0, (x.1.0, (x.1.1.0.1.0, (x.1.1.0.1.1, x.1.1.1))))))
        (λ m. omega arith)
        h in
        let on = turn
        {G = opened (t ∷ u ∷ us) ⋆ F}
        (λ x. ((x.1.0, (x.1.1.0, (x.0, (x.1.1.1.0, x.1.1.1.1.0)))), x.1.1.1.1.1))
        (λ m. omega arith)
        (patched (root u + 1) ParseNode.UnpatchedListItem 0 ParseNode.ListItem (root t + 1) moved) in
        (e, framed on, (t ∷ u ∷ us, refl, refl, record { on = on; placed = tt }));
  }

  -- an item is added after its content
  pub item-beside :
      (ts : List Numbered) (t : Numbered) →
      Sim (Beside o) (At o (t ∷ []) (opened ts ⋆ F)) (Via ends contents (λ us. At o [] (opened us ⋆ F)))
      (push_list_item (ends ts)) (pure (strip t ∷ contents ts))
  unfolding ◌>>=◌ Lists.push_list_item
  item-beside ts t =
      let items = unpatched (root t + 1) ⋆ (tree t ⋆ (opened ts ⋆ F)) in
      ◌then◌ {Q = λ p _ _ s _. (p ≡ root t + 1) × On o items s} {f' = λ _. pure (strip t ∷ contents ts)}
      (append-sim ParseNode.UnpatchedListItem 0 (tt {0}) λ c s p r.
      let on = appended ParseNode.UnpatchedListItem 0 r p.on in
      (_, on, (sym p.placed.0, rw p.placed.0 on)))
      (λ a b. record { run = λ c c' s s' e k q. rw q.0 ((extended-beside ts t).run c c' s s' e k q.1) })

  ended-beside :
      (ts : List Numbered) (n : ℕ) →
      Sim (Beside o) (λ _ s _. On o (cell n ParseNode.NoMoreItems 0 ⋆ (opened ts ⋆ F)) s)
      (Via root strip (λ u. At o [] (tree u ⋆ F)))
      (ended append patch (ends ts) n) (pure (items (contents ts) (node ParseNode.NoMoreItems 0 fnil)))
  unfolding ended patch ◌>>=◌ parts
  ended-beside [] n = record {
    run = λ c c' s s' e k h.
        let on = turn
        {G = tree (numbered n ParseNode.NoMoreItems 0 rnil) ⋆ F}
        (λ x. ((x.0.0, x.0.1, rw x.0.0, tt), x.1.1))
        (λ m. omega arith)
        h in
        (e, k, (numbered n ParseNode.NoMoreItems 0 rnil, refl, refl, record { on = on; placed = tt }));
  }
  ended-beside (u ∷ us) n =
      let end = numbered n ParseNode.NoMoreItems 0 rnil in record {
        run = λ c c' s s' e k h.
            let moved = turn
            {G = unpatched (root u + 1) ⋆ (cell n ParseNode.NoMoreItems 0 ⋆ (tree u ⋆ (chain us (root u + 1) ⋆ F)))}
            (λ x. (x.1.0.0, (x.0, (x.1.0.1.0, (x.1.0.1.1, x.1.1)))))
            (λ m. omega arith)
            h in
            let on = turn
            {G = tree (chained (u ∷ us) end) ⋆ F}
            (λ x. (
              chained-stands _ (u ∷ us) end
                  (x.0, (x.1.1.0, x.1.1.1.0))
                  (x.1.0.0, x.1.0.1, rw x.1.0.0, tt),
              x.1.1.1.1,
            ))
            (λ m. omega (arith, chained-times (u ∷ us) end m))
            (patched (root u + 1) ParseNode.UnpatchedListItem 0 ParseNode.ListItem n moved) in (
              e,
              framed on,
              (
                chained (u ∷ us) end,
                chained-root (u ∷ us) end,
                chained-strip (u ∷ us) end,
                record { on = on; placed = tt },
              ),
            );
      }

  -- the list is closed: what is read is its first item, or its end if it has none
  pub close-beside :
      (ts : List Numbered) →
      Sim (Beside o) (At o [] (opened ts ⋆ F)) (Via root strip (λ u. At o [] (tree u ⋆ F)))
      (push_end_of_list (ends ts)) (pure (items (contents ts) (node ParseNode.NoMoreItems 0 fnil)))
  unfolding ◌>>=◌ Lists.push_end_of_list
  close-beside ts =
      ◌then◌ {Q = λ p _ _ s _. On o (cell p ParseNode.NoMoreItems 0 ⋆ (opened ts ⋆ F)) s}
      {f' = λ _. pure (items (contents ts) (node ParseNode.NoMoreItems 0 fnil))}
      (append-sim ParseNode.NoMoreItems 0 (tt {0}) λ c s p r.
      let on = appended ParseNode.NoMoreItems 0 r p.on in
      (_, on, on))
      (λ n b. ended-beside ts n)
