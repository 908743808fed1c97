use native.Mathlib.Omega.{arith}
use Rattle.finish_arrange.proofs.Perm.{begins, roomy, q_small, steps_as, ends}
use Rattle.finish_arrange.proofs.arrange.Goals as goal

pub loop-k-init : goal.loop-k-init
loop-k-init c = begins c.args.nodes.now c.requires.0

pub offset_bounds-work-k : goal.offset_bounds-work-k
offset_bounds-work-k c = let q = (roomy c.loop-k.invariant c.loop-k-test.true c.requires.2).2 in let f = c.requires.1 in omega arith

pub bounds-work-k : goal.bounds-work-k
bounds-work-k c = let q = (roomy c.loop-k.invariant c.loop-k-test.true c.requires.2).2 in let f = (roomy c.loop-k.invariant c.loop-k-test.true c.requires.2).4 in omega arith

pub overflow_cast-p : goal.overflow_cast-p
overflow_cast-p c = let q = (roomy c.loop-k.invariant c.loop-k-test.true c.requires.2).3 in let f = c.requires.1 in omega arith

pub swap_nodes-requires : goal.swap_nodes-requires
swap_nodes-requires c = let q = roomy c.loop-k.invariant c.loop-k-test.true c.requires.2 in (q.0, q.1)

pub swap_work-requires : goal.swap_work-requires
swap_work-requires c = let q = roomy c.loop-k.invariant c.loop-k-test.true c.requires.2 in (q.4, c.requires.1, q.2, q.3, q_small c.loop-k.invariant c.loop-k-test.true)

pub loop-k-preserved : goal.loop-k-preserved
loop-k-preserved c = steps_as c.loop-k.invariant c.loop-k-test.true c.requires.2 c.swap_nodes.ensures c.swap_work.ensures

pub shape_of-nodes : goal.shape_of-nodes
shape_of-nodes c = c.loop-k.invariant.len

pub shape_of-work : goal.shape_of-work
shape_of-work c = c.loop-k.invariant.lenw

pub returns : goal.returns
returns c = ends c.loop-k.invariant c.loop-k-test.false
