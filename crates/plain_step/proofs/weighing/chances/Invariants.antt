-- `plain_step::weighing::chances` meets its contract: the chances of the conditions so far.
use mathlib.Core.Path.{◌≡◌}
use Prim.Native.Nat.{ℕ, ◌+◌, ◌<◌}
use lib.ListN.{length, get_or}
use Rattle.theory.specs.Widths.{conditions_most}
use Rattle.plain_step.specs.PointState.{Chance}
use Rattle.plain_step.proofs.weighing.chances.Given as goal

abbrev pub invariant-loop-k : goal.invariant-loop-k
invariant-loop-k l = (length l.c ≡ conditions_most) × ((j : ℕ) → j < l.k → Chance l.model l.a (j + 1) l.x (get_or l.c j 0))
