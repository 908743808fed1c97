-- `load_model::row` meets its contract.
use mathlib.Core.Path.{ap, ap₂}
use Prim.Native.Nat.{ℕ, ◌+◌, ◌*◌}
use native.Mathlib.Omega.{arith}
use Rattle.load_model.proofs.Places.{row_few}
use Rattle.load_model.proofs.row.Goals as goal

pub overflow_mul-result : goal.overflow_mul-result
overflow_mul-result c = let z = row_few c.args.above (1 + c.from.result + c.from-2.result) c.requires
    (omega (arith, c.from.ensures, c.from-2.ensures, c.ranges)) in omega (arith, z)

pub returns : goal.returns
returns c = (
  ap (λ (y : ℕ). c.args.above * y) (ap₂ (λ (x y : ℕ). 1 + x + y) c.from.ensures c.from-2.ensures),
  row_few c.args.above (1 + c.from.result + c.from-2.result) c.requires (omega (arith, c.from.ensures, c.from-2.ensures, c.ranges)),
)
