-- Demand 3 as an instance of the simulation: columns beside trees, over one row.
use mathlib.Core.Logic.{inr}
use mathlib.Core.Path.{refl}
use mathlib.Core.List.{List, []}
use native.Mathlib.Omega.{arith}
use Rattle.rules.specs.Reading.{Row}
use Rattle.rules.specs.Trees.{trees}
use Rattle.rules.specs.Columns.{Nodes, columns}
use Rattle.rules.proofs.Ways.{Numbered, root, strip}
use Rattle.rules.proofs.Laid.{Claim, tree, ◌⋆◌, turn}
use Rattle.rules.proofs.Model.{Rows, Model, one-row, equal, parts-of}
use Rattle.rules.proofs.Grow.{Beside, At, node-beside, leaf-beside, link-beside}
use Rattle.rules.proofs.Chain.{ends, contents, opened, item-beside, close-beside}

pub row-once : (o : Nodes) (row : Row) → Rows (Beside o) row row
row-once o row = one-row _ _ _ row (λ c s s' k. (inr refl, k))

-- A node that both have is a tree with its node numbers; what else stands in the columns is a claim on other nodes. The
-- credit is not used.
unfoldable pub beside : (o : Nodes) → Model columns trees (Beside o)
beside o = record {
  N = Numbered;
  nodeˡ = root;
  nodeʳ = strip;
  L = List Numbered;
  listˡ = ends;
  listʳ = contents;
  Besides = Claim;
  held = λ t F. tree t ⋆ F;
  opened = λ l F. opened l ⋆ F;
  At = λ _ ts F. At o ts F;
  paid = λ _ _ _ _ _ _ _ _ h. record { on = h.on; placed = h.placed };
  less = λ _ _ _ _ _ _ h. h;
  aside = λ _ t F _ s s' h. record { on = h.on; placed = tt };
  shared = λ _ _ _ _ _ _. tt;
  node = λ _ ts F k l l' e d. rw (← equal (Beside o) k l l' (λ x. x) d) (node-beside {ts = ts} k l (parts-of k e));
  leaf = λ _ ts F k l l' e d. rw (← equal (Beside o) k l l' (λ x. x) d) (leaf-beside {ts = ts} k l (parts-of k e));
  link = λ _ ts F k u e. link-beside {ts = ts} k u (parts-of k e);
  begin = λ _ F _ s s' h.
      ([], refl, refl, record { on = turn (λ x. (tt, x)) (λ m. omega arith) h.on; placed = tt });
  item = λ _ F l t. item-beside l t;
  close = λ _ F l. close-beside l;
}
