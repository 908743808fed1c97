use Rattle.value_walk.proofs.Down.{begins, goes_below, goes_on, ends}
use Rattle.value_walk.proofs.walks.walk.Goals as goal

pub loop-below-init : goal.loop-below-init
loop-below-init c = begins _ _ _ _ _ c.step-below.ensures

pub loop-below-smaller : goal.loop-below-smaller
loop-below-smaller c = goes_below _ _ _ _ _ _ _ c.loop-below.invariant c.loop-below-test.true

pub loop-below-preserved : goal.loop-below-preserved
loop-below-preserved c = goes_on _ _ _ _ _ _ _ c.loop-below.invariant c.loop-below-test.true c.step-below-in-loop-below.ensures

pub returns : goal.returns
returns c = ends _ _ _ _ _ _ _ c.loop-below.invariant c.loop-below-test.false
