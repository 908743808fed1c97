use mathlib.Core.Path.{refl}
use Rattle.solve_operation.specs.Operation.{zero_node}
use Rattle.solve_operation.proofs.zero.Goals as goal

pub returns : goal.returns
unfolding zero_node
returns c = refl
