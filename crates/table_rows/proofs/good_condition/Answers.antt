-- `table_rows::good_condition` meets its contract.
use Rattle.theory.specs.Value.{good_condition_row}
use Rattle.table_rows.proofs.Judged.{all_three}
use Rattle.table_rows.proofs.good_condition.Goals as goal

pub returns : goal.returns
unfolding good_condition_row
returns c = all_three c.is_among.ensures c.zeros_from.ensures c.good_branches.ensures
