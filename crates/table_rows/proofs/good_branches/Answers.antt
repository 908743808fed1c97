-- `table_rows::good_branches` meets its contract.
use mathlib.Core.Path.{ap₂}
use mathlib.Core.Bool.{◌&&◌}
use Rattle.theory.specs.Value.{good_branches}
use Rattle.table_rows.proofs.good_branches.Goals as goal

pub returns : goal.returns
unfolding good_branches
returns c = ap₂ ◌&&◌ c.is_among.ensures c.is_among-2.ensures
