use native.Mathlib.Omega.{arith}
use Prim.Native.Nat.{◌+◌}
use Rattle.table_clear.proofs.Parts.{within}
use Rattle.finish.proofs.number_stages.Goals as goal

pub overflow_add-cap : goal.overflow_add-cap
overflow_add-cap c = omega (arith, c.requires.0.room, c.requires.0.few)

pub work-requires : goal.work-requires
work-requires c = (omega arith, omega (arith, c.requires.0.room, c.requires.1))

pub number_all-requires : goal.number_all-requires
number_all-requires c = (
  c.requires.0,
  omega (arith, c.requires.1, c.work.auto.words),
  λ i h. within 0 c.args.work.now c.args.cap (c.args.cap + c.args.count) c.work.ensures (omega arith) (omega (arith, c.requires.0.room, c.requires.1)) 0 (c.args.cap + i) (omega arith) (omega arith),
  c.requires.2,
)
