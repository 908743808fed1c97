use Rattle.collect_mark.proofs.Steps.{begins, asks, falls, ends}
use Rattle.collect_mark.proofs.descend.Goals as goal

pub loop-i-init : goal.loop-i-init
loop-i-init c = begins c.args.nodes.now c.args.work.now c.args.count

pub below-requires : goal.below-requires
below-requires c = let p = c.requires in asks c.loop-i.invariant p.0 p.1 p.2 p.3 c.loop-i-test.true

pub loop-i-preserved : goal.loop-i-preserved
loop-i-preserved c = falls c.loop-i.invariant c.loop-i-test.true c.below.ensures

pub shape_of-work : goal.shape_of-work
shape_of-work c = c.loop-i.invariant.len

pub returns : goal.returns
returns c = ends c.loop-i.invariant c.loop-i-test.false
