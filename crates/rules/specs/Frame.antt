-- What a call leaves alone.
use Rattle.std.specs.Prelude.{ℕ, ◌≤◌, ◌<◌, ◌≡◌, length}
use Rattle.rules.specs.Columns.{Nodes}
use Rattle.rules.specs.Ways.{kind_at, load_at}

-- The columns s are o but for the nodes from the count of o, the given one, up to that of s, the replied one.
pub record Frame (o s : Nodes) : Type 0 where
  pub grew : o.count ≤ s.count
  pub fits : o.count ≤ length o.kinds → s.count ≤ length s.kinds
  pub kinds_kept : length s.kinds ≡ length o.kinds
  pub loads_kept : length s.loads ≡ length o.loads
  pub below : (m : ℕ) → m < o.count → (kind_at s m ≡ kind_at o m) × (load_at s m ≡ load_at o m)
  pub above : (m : ℕ) → s.count ≤ m → (kind_at s m ≡ kind_at o m) × (load_at s m ≡ load_at o m)
