-- `checks::check_cursor` meets its contract: the row's check comes first.
use Rattle.checks.proofs.Laws.{both}
use Rattle.checks.proofs.check_cursor.Goals as goal

pub returns : goal.returns
returns c = both _ _ c.check_row.ensures c.check_place.ensures c.and.ensures
