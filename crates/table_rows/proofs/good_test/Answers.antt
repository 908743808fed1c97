-- `table_rows::good_test` meets its contract.
use mathlib.Core.Path.{ap₂}
use mathlib.Core.Bool.{◌&&◌}
use Rattle.theory.specs.Value.{good_test_row}
use Rattle.table_rows.proofs.good_test.Goals as goal

pub returns : goal.returns
unfolding good_test_row
returns c = ap₂ ◌&&◌ c.small_linear.ensures c.good_branches.ensures
