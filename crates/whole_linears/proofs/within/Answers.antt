use mathlib.Core.Path.{refl}
use native.Mathlib.Omega.{arith}
use Rattle.whole.proofs.Loops.{one_over, one_fine, all_fine}
use Rattle.whole_linears.proofs.within.Goals as goal

pub loop-i-init : goal.loop-i-init
loop-i-init c = (omega arith, refl)

pub returns-then-mag-gt-LIMIT : goal.returns-then-mag-gt-LIMIT
returns-then-mag-gt-LIMIT c = one_over _ c.well_formed.0.1.0.1 c.loop-i.i c.loop-i.invariant.1 c.loop-i-test.true
    c.mag-arg-1.given c.mag.ensures c.if-mag-gt-LIMIT.true

pub loop-i-preserved : goal.loop-i-preserved
loop-i-preserved c = (
  omega arith,
  one_fine _ c.well_formed.0.1.0.1 c.loop-i.i c.loop-i.invariant.1
      c.loop-i-test.true c.mag-arg-1.given c.mag.ensures c.if-mag-gt-LIMIT.false,
)

pub returns : goal.returns
returns c = all_fine _ c.well_formed.0.1.0.1 c.loop-i.i c.loop-i.invariant.1 c.loop-i-test.false
