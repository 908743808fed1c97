use mathlib.Core.Path.{refl, ◌∙◌}
use native.Mathlib.Omega.{arith}
use Rattle.solve_stages.proofs.StagesOthers.{trying_starts, trying_due, trying_word, trying_stops, trying_on, trying_ends}
use Rattle.solve_stages.proofs.others.Goals as goal

pub loop-a-init : goal.loop-a-init
loop-a-init c = (trying_starts c.requires.0 c.requires.1 c.requires.2 c.site-operands.ensures c.action_index-actions.ensures.0, refl, refl, refl, refl)

pub next_action-r-requires : goal.next_action-r-requires
next_action-r-requires c = (
  trying_due c.loop-a.invariant.0 c.requires.0 (omega (arith, c.loop-a-test.true)) c.loop-a.invariant.3,
  trying_word c.loop-a.invariant.0
      (omega (arith, c.loop-a-test.true)) (c.loop-a.invariant.4 ∙ c.requires.3),
)

pub returns-then-r-ne0 : goal.returns-then-r-ne0
returns-then-r-ne0 c = trying_stops c.loop-a.invariant.0 (omega (arith, c.loop-a-test.true)) c.next_action-r.ensures c.if-r-ne0.true

pub loop-a-preserved : goal.loop-a-preserved
loop-a-preserved c = (
  trying_on c.loop-a.invariant.0 (omega (arith, c.loop-a-test.true)) c.next_action-r.ensures c.if-r-ne0.false
      (omega (arith, c.requires.0.room, c.loop-a.invariant.3, c.next_action-r.auto.roots)),
  c.next_action-r.auto.nodes ∙ c.loop-a.invariant.1,
  c.next_action-r.auto.work ∙ c.loop-a.invariant.2,
  c.next_action-r.auto.roots ∙ c.loop-a.invariant.3,
  c.next_action-r.auto.peaks ∙ c.loop-a.invariant.4,
)

pub overflow_add-a-end : goal.overflow_add-a-end
overflow_add-a-end c = omega (arith, c.action_index-actions.ensures.1)

pub returns : goal.returns
returns c = trying_ends c.loop-a.invariant.0 (omega (arith, c.loop-a-test.false))
