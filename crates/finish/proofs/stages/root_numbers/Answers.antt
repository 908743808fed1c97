use native.Mathlib.Omega.{arith}
use Rattle.finish.proofs.Fill.{numbers_begin, numbers_go, numbers_end}
use Rattle.finish.proofs.stages.root_numbers.Goals as goal

pub loop-j-init : goal.loop-j-init
loop-j-init c = (numbers_begin c.args.work.now c.args.cap c.args.roots.now c.args.stages.now, omega arith)

pub overflow_add-stages : goal.overflow_add-stages
overflow_add-stages c = let q = c.requires.2.below _ c.loop-j-test.true in let a = c.requires.1 in let b = c.requires.0 in omega arith

pub offset_bounds-work-cap : goal.offset_bounds-work-cap
offset_bounds-work-cap c = let q = c.requires.2.below _ c.loop-j-test.true in let a = c.requires.1 in let b = c.requires.0 in omega arith

pub bounds-work-cap : goal.bounds-work-cap
bounds-work-cap c = let q = c.requires.2.below _ c.loop-j-test.true in let a = c.requires.1 in let b = c.requires.0 in omega arith

pub bounds-stages-j : goal.bounds-stages-j
bounds-stages-j c = let e = c.loop-j.invariant.0.len in let a = c.requires.3 in omega (arith, c.loop-j-test.true)

pub loop-j-preserved : goal.loop-j-preserved
loop-j-preserved c = (
  numbers_go c.args.work.now c.args.cap c.args.roots.now c.args.stages.now c.requires.3 c.loop-j.invariant.0
      c.loop-j-test.true,
  omega (arith, c.loop-j-test.true),
)

pub shape_of-stages : goal.shape_of-stages
shape_of-stages c = c.loop-j.invariant.0.len

pub returns : goal.returns
returns c = numbers_end c.args.work.now c.args.cap c.args.roots.now c.args.stages.now
    c.loop-j.invariant.0 c.loop-j-test.false c.loop-j.invariant.1
