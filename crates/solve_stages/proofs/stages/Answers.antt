use mathlib.Core.Path.{refl, ◌∙◌}
use native.Mathlib.Omega.{arith}
use Rattle.solve_stages.proofs.StagesAll.{staging_starts, staging_due, staging_stops, staging_on, staging_ends}
use Rattle.solve_stages.proofs.stages.Goals as goal

pub loop-h-init : goal.loop-h-init
loop-h-init c = (staging_starts c.args.horizon c.args.run c.requires.0 c.model_size-size.ensures.0 c.args.peaks.now c.requires.1, refl, refl, refl, refl)

pub stage-r-requires : goal.stage-r-requires
stage-r-requires c = (
  staging_due c.loop-h.invariant.0 (omega arith) (omega (arith, c.loop-h-test.true)) c.requires.2 (omega (arith, c.requires.3, c.loop-h.invariant.3)),
  refl,
  omega (arith, c.loop-h-test.true, c.requires.3, c.loop-h.invariant.3, c.loop-h.invariant.0.place),
  c.loop-h.invariant.4 ∙ c.requires.4,
)

pub returns-then-r-ne0 : goal.returns-then-r-ne0
returns-then-r-ne0 c = staging_stops c.loop-h.invariant.0 (omega (arith, c.loop-h-test.true)) c.stage-r.ensures c.if-r-ne0.true

pub loop-h-preserved : goal.loop-h-preserved
loop-h-preserved c = (
  staging_on c.loop-h.invariant.0 (omega (arith, c.loop-h-test.true)) c.stage-r.ensures c.if-r-ne0.false
      (omega (arith, c.loop-h-test.true, c.requires.3, c.loop-h.invariant.3, c.loop-h.invariant.0.place, c.stage-r.auto.roots)),
  c.stage-r.auto.nodes ∙ c.loop-h.invariant.1,
  c.stage-r.auto.work ∙ c.loop-h.invariant.2,
  c.stage-r.auto.roots ∙ c.loop-h.invariant.3,
  c.stage-r.auto.peaks ∙ c.loop-h.invariant.4,
)

pub overflow_add-first : goal.overflow_add-first
overflow_add-first c = omega (arith, c.loop-h-test.true, c.requires.2, c.model_size-size.ensures.1)

pub overflow_add-first-in-loop-h : goal.overflow_add-first-in-loop-h
overflow_add-first-in-loop-h c = omega (arith, c.loop-h-test.true, c.requires.2, c.model_size-size.ensures.1)

pub overflow_add-first-in-loop-h-2 : goal.overflow_add-first-in-loop-h-2
overflow_add-first-in-loop-h-2 c = omega (arith, c.loop-h-test.true, c.requires.2, c.model_size-size.ensures.1)

pub overflow_add-first-in-loop-h-3 : goal.overflow_add-first-in-loop-h-3
overflow_add-first-in-loop-h-3 c = omega (arith, c.loop-h-test.true, c.requires.2, c.model_size-size.ensures.1)

pub overflow_add-result : goal.overflow_add-result
overflow_add-result c = omega (arith, c.loop-h-test.true, c.requires.2, c.model_size-size.ensures.1)

pub returns : goal.returns
returns c = staging_ends c.loop-h.invariant.0 (λ q. omega (arith, c.loop-h-test.false))
