-- `solve_stages::stage` meets its contract: the first action's total stands behind what is held, as `others` requires (`others_due`); a stop of the
-- first is the stage's, and else the two calls together are `stage_over` (`stage_ends`).
use mathlib.Core.Path.{◌∙◌}
use native.Mathlib.Omega.{arith}
use Rattle.solve_stages.proofs.StagesOthers.{first_stops, others_due, stage_ends}
use Rattle.solve_stages.proofs.stage.Goals as goal

pub first_action-f-requires : goal.first_action-f-requires
first_action-f-requires c = (c.requires.0, omega (arith, c.requires.1, c.requires.3))

pub returns-then-f-ne0 : goal.returns-then-f-ne0
returns-then-f-ne0 c = first_stops c.requires.0 c.requires.1 c.first_action-f.ensures c.if-f-ne0.true

pub others-requires : goal.others-requires
others-requires c = (
  others_due c.requires.0 c.requires.1 c.first_action-f.ensures c.if-f-ne0.false (omega (arith, c.requires.2, c.first_action-f.auto.roots)),
  c.if-f-ne0.false,
  c.requires.0.ready.first,
  c.first_action-f.auto.peaks ∙ c.requires.3,
)

pub returns : goal.returns
returns c = stage_ends c.requires.0 c.requires.1 c.first_action-f.ensures c.if-f-ne0.false (omega (arith, c.requires.2, c.first_action-f.auto.roots)) c.others.ensures
