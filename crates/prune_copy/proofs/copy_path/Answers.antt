use native.Mathlib.Omega.{arith}
use Rattle.prune_copy.proofs.Walk.{begins, ready, steps, ends}
use Rattle.prune_copy.proofs.copy_path.Goals as goal

pub overflow_sub-copies : goal.overflow_sub-copies
overflow_sub-copies c = c.requires.3

pub overflow_add-c : goal.overflow_add-c
overflow_add-c c = record { fits = omega (arith, c.requires.5) }

pub stand_in-answer-requires : goal.stand_in-answer-requires
stand_in-answer-requires c = (c.requires.3, record { above = c.requires.1; within = omega (arith, c.requires.2, c.requires.5) })

pub loop-k-init : goal.loop-k-init
loop-k-init c = λ G. begins c.args.nodes.now c.args.root c.args.turns.now c.args.last G.conditions G.actions c.requires.1 c.requires.2 c.requires.3 c.requires.4

pub copy_row-r-requires : goal.copy_row-r-requires
copy_row-r-requires c = let U = c.loop-k.invariant c.requires.0 in
    ready c.requires.0 c.requires.5 U (omega arith)

pub overflow_sub-c : goal.overflow_sub-c
overflow_sub-c c = let U = c.loop-k.invariant c.requires.0 in
    omega (arith, U.at, c.loop-k-test.true)

pub loop-k-preserved : goal.loop-k-preserved
loop-k-preserved c = λ G. steps G c.requires.5 (c.loop-k.invariant G) (omega arith) c.copy_row-r.ensures

pub shape_of-nodes : goal.shape_of-nodes
shape_of-nodes c = (c.loop-k.invariant c.requires.0).len

pub returns : goal.returns
returns c = let U = c.loop-k.invariant c.requires.0 in
    ends c.requires.0 c.requires.5 U (omega arith) c.stand_in-answer.ensures c.requires.1 c.requires.2 c.requires.4
