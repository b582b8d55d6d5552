-- `entry_rows::main` is safe: the buffer is lent as a whole.
use Rattle.std.proofs.Common.{ℕ, sym}
use Rattle.std.proofs.lemmas.List.{length-replicate}
use Rattle.entry_rows.proofs.main.Goals as goal

pub slice_bounds-read_input-end : goal.slice_bounds-read_input-end
slice_bounds-read_input-end c = sym (length-replicate {0} {A = ℕ} 524288 0)
