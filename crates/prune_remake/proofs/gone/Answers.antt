-- `prune_remake::gone` meets its contract.
use Prim.Native.Nat.{◌+◌, ◌-◌, ◌*◌}
use native.Mathlib.Omega.{arith}
use Rattle.prune_remake.proofs.gone.Goals as goal

pub overflow_cast-result : goal.overflow_cast-result
overflow_cast-result c = record { fits = omega (arith, c.shared_slice_known-1.given (c.args.cap * 2 + (c.args.r - 1))) }
