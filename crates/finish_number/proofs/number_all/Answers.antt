use Rattle.finish_number.proofs.Rootwise.{begins, goes, ends}
use Rattle.finish_number.proofs.number_all.Goals as goal

pub loop-r-init : goal.loop-r-init
loop-r-init c = begins c.args.cap c.args.nodes.now c.args.count c.args.work.now
    c.args.roots.now c.requires.0.room c.requires.1 c.requires.2

pub number-c-requires : goal.number-c-requires
number-c-requires c = (c.requires.0, c.requires.3.below _ c.loop-r-test.true, c.loop-r.invariant.state)

pub loop-r-preserved : goal.loop-r-preserved
loop-r-preserved c = goes c.loop-r.invariant c.loop-r-test.true c.number-c.auto.work c.number-c.ensures

pub shape_of-work : goal.shape_of-work
shape_of-work c = c.loop-r.invariant.len

pub returns : goal.returns
returns c = ends c.loop-r.invariant c.loop-r-test.false
