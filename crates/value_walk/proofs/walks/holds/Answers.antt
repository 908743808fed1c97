-- `value_walk::walks::holds` meets its contract.
use Rattle.value_walk.proofs.Linears.{test_is}
use Rattle.value_walk.proofs.walks.holds.Goals as goal

pub returns : goal.returns
returns c = test_is _ c.not_positive.ensures c.numerator.ensures
