-- `whole_wide::total` meets its contract.
use mathlib.Core.Path.{ap, ◌∙◌}
use Prim.Native.Nat.{◌-◌, ◌^◌}
use native.Mathlib.Omega.{arith}
use lib.IntN.{pos, ◌*ℤ◌, +ℤ_comm}
use Rattle.whole.specs.Numerator.{number}
use Rattle.whole_wide.specs.Wide.{fitted}
use Rattle.whole_wide.proofs.Powers.{spread}
use Rattle.whole_wide.proofs.total.Goals as goal

pub returns-then-p-q : goal.returns-then-p-q
returns-then-p-q c = let a = c.args in
    c.scaled_sum.ensures ∙ ap fitted (spread (number a.y) (number a.x) a.w (a.q - a.p) a.p a.q (omega arith) ∙ +ℤ_comm (number a.y *ℤ pos (a.w ^ a.q)) (number a.x *ℤ pos (a.w ^ a.p)))

pub returns-else-p-q : goal.returns-else-p-q
returns-else-p-q c = let a = c.args in
    c.scaled_sum-else-p-q.ensures ∙ ap fitted (spread (number a.x) (number a.y) a.w (a.p - a.q) a.q a.p (omega arith))
