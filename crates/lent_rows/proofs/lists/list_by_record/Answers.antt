-- `lent_rows::lists::list_by_record` meets its contract: it begins with no item.
use native.Mathlib.Omega.{arith}
use Rattle.lent_rows.proofs.Items.{none-fits}
use Rattle.lent_rows.proofs.lists.list_by_record.Goals as goal

pub items-requires : goal.items-requires
items-requires c = (none-fits c.requires.0 c.start_list.ensures, omega (arith, c.requires))
