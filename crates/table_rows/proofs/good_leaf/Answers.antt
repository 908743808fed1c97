-- `table_rows::good_leaf` meets its contract.
use Rattle.theory.specs.Value.{good_leaf_row}
use Rattle.table_rows.proofs.Judged.{all_three}
use Rattle.table_rows.proofs.good_leaf.Goals as goal

pub returns : goal.returns
unfolding good_leaf_row
returns c = all_three c.small_linear.ensures c.is_among.ensures c.is_zero.ensures
