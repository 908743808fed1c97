-- `table_rows::good_none` meets its contract.
use Rattle.theory.specs.Value.{good_none_row}
use Rattle.table_rows.proofs.good_none.Goals as goal

pub returns : goal.returns
unfolding good_none_row
returns c = c.zeros_from.ensures
