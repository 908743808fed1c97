use native.Mathlib.Omega.{arith}
use Rattle.collect_compact.proofs.Stays.{none, one_more, all}
use Rattle.collect_compact.proofs.stay.Goals as goal

pub loop-i-init : goal.loop-i-init
loop-i-init c = none c.args.cap c.args.work.now c.args.count

pub bounds-work-i : goal.bounds-work-i
bounds-work-i c = omega (arith, c.loop-i.invariant.len, c.requires.0, c.requires.2, c.loop-i-test.true)

pub shape_of-work-then-work-i-eq0 : goal.shape_of-work-then-work-i-eq0
shape_of-work-then-work-i-eq0 c = c.loop-i.invariant.len

pub returns-then-work-i-eq0 : goal.returns-then-work-i-eq0
returns-then-work-i-eq0 c = c.loop-i.invariant

pub overflow_add-work : goal.overflow_add-work
overflow_add-work c = omega (arith, c.requires.1, c.requires.2, c.loop-i-test.true)

pub offset_bounds-work-cap : goal.offset_bounds-work-cap
offset_bounds-work-cap c = omega (arith, c.requires.1, c.requires.2, c.loop-i-test.true)

pub bounds-work-cap : goal.bounds-work-cap
bounds-work-cap c = omega (arith, c.loop-i.invariant.len, c.requires.0, c.requires.2, c.loop-i-test.true)

pub loop-i-preserved : goal.loop-i-preserved
loop-i-preserved c = one_more c.loop-i.invariant c.loop-i-test.true c.requires.2 c.requires.0 c.if-work-i-eq0.false

pub shape_of-work : goal.shape_of-work
shape_of-work c = c.loop-i.invariant.len

pub returns : goal.returns
returns c = all c.loop-i.invariant c.loop-i-test.false
