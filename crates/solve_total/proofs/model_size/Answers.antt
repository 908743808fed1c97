-- `solve_total::model_size` meets its contract.
use native.Mathlib.Omega.{arith}
use Rattle.solve_total.proofs.Model.{size_of, size_fits}
use Rattle.solve_total.proofs.model_size.Goals as goal

pub overflow_add-result : goal.overflow_add-result
overflow_add-result c = omega (arith, c.byte_index-n.ensures.1)

pub overflow_add-result-2 : goal.overflow_add-result-2
overflow_add-result-2 c = omega (arith, c.byte_index-m.ensures.1, c.byte_index-n.ensures.1)

pub overflow_mul-result : goal.overflow_mul-result
overflow_mul-result c = omega (
  arith,
  size_fits c.byte_index-m.result c.byte_index-n.result c.action_index-a.result
      c.byte_index-m.ensures.1 c.byte_index-n.ensures.1 c.action_index-a.ensures.1,
)

pub returns : goal.returns
returns c = (
  size_of c.args.model.now c.site-operands.ensures c.byte_index-m.ensures.0
      c.byte_index-n.ensures.0 c.action_index-a.ensures.0,
  size_fits c.byte_index-m.result c.byte_index-n.result
      c.action_index-a.result c.byte_index-m.ensures.1 c.byte_index-n.ensures.1 c.action_index-a.ensures.1,
)
