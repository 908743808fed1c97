use native.Mathlib.Omega.{arith}
use Rattle.collect.proofs.Gathers.{begins, inside, goes, ended}
use Rattle.collect.proofs.forward.Goals as goal

pub loop-r-init : goal.loop-r-init
loop-r-init c = begins c.args.work.now c.args.cap c.args.roots.now

pub overflow_add-r : goal.overflow_add-r
overflow_add-r c = let p = c.requires in let q = inside c.loop-r.invariant p.2 (omega (arith, c.loop-r.invariant.len, c.loop-r-test.true)) in omega (arith, p.1, p.0)

pub offset_bounds-work-cap : goal.offset_bounds-work-cap
offset_bounds-work-cap c = let p = c.requires in let q = inside c.loop-r.invariant p.2 (omega (arith, c.loop-r.invariant.len, c.loop-r-test.true)) in omega (arith, p.1, p.0)

pub bounds-work-cap : goal.bounds-work-cap
bounds-work-cap c = let p = c.requires in let q = inside c.loop-r.invariant p.2 (omega (arith, c.loop-r.invariant.len, c.loop-r-test.true)) in omega (arith, p.0)

pub loop-r-preserved : goal.loop-r-preserved
loop-r-preserved c = goes c.loop-r.invariant (omega (arith, c.loop-r.invariant.len, c.loop-r-test.true))

pub shape_of-roots : goal.shape_of-roots
shape_of-roots c = c.loop-r.invariant.len

pub returns : goal.returns
returns c = ended c.loop-r.invariant (omega (arith, c.loop-r.invariant.len, c.loop-r-test.false))
