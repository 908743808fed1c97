use native.Mathlib.Omega.{arith}
use mathlib.Core.Path.{◌∙◌, refl}
use Rattle.import_emit_cases.proofs.Looping.{start, still, ended, on, stops}
use Rattle.std.specs.Prelude.{Ok}
use Rattle.std.proofs.lemmas.Result.{err_from_is_err_and}
use Rattle.import_emit_cases.proofs.finish.Goals as goal

pub loop-n-init : goal.loop-n-init
loop-n-init c = start _ _ _ _ _ c.requires

pub step-requires : goal.step-requires
step-requires c = (omega (arith, c.loop-n-test.true), still _ _ _ _ _ c.requires _ _ _ _ c.loop-n.invariant)

pub shape_of-list-in_err-w : goal.shape_of-list-in_err-w
shape_of-list-in_err-w c = c.step.auto.list ∙ c.loop-n.invariant.listed

pub shape_of-out-in_err-w : goal.shape_of-out-in_err-w
shape_of-out-in_err-w c = c.step.auto.out ∙ c.loop-n.invariant.same

pub returns-in_err-w : goal.returns-in_err-w
returns-in_err-w c = let p = err_from_is_err_and c.from_residual.result c.from_residual.ensures.1 in rw p.1 (stops _ _ _ _ _ c.requires _ _ _ _ c.loop-n.invariant _ _ _ c.in_err-w.ensures)

pub loop-n-smaller : goal.loop-n-smaller
loop-n-smaller c = let f = c.in_ok-w.ensures.grows refl in let g = c.in_ok-w.ensures.within in let k = c.loop-n.invariant.same in omega (arith, f, g, k)

pub loop-n-preserved : goal.loop-n-preserved
loop-n-preserved c = on _ _ _ _ _ c.requires _ _ _ _ c.loop-n.invariant c.in_ok-w.w _ _ c.in_ok-w.ensures c.step.auto.list c.step.auto.out

pub shape_of-list : goal.shape_of-list
shape_of-list c = c.loop-n.invariant.listed

pub shape_of-out : goal.shape_of-out
shape_of-out c = c.loop-n.invariant.same

pub returns : goal.returns
returns c = ended _ _ _ _ _ c.requires _ _ _ _ c.loop-n.invariant (omega (arith, c.loop-n-test.false))
