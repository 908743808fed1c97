-- `solve_advice::advise` meets its contract: a refusal of `solve` is given on (`refusal_given`), and else the
-- value is read from the tables that it left (`value_given`).
use mathlib.Core.Path.{refl}
use Rattle.value_walk.specs.Out.{out}
use Rattle.value_walk.specs.State.{asked}
use Rattle.theorems.proofs.laws.Advice.{refusal_given, value_given}
use Rattle.solve_advice.proofs.advise.Goals as goal

pub returns-then-s-ne0 : goal.returns-then-s-ne0
returns-then-s-ne0 c = let a = c.args in
    refusal_given a.model.now a.horizon a.nodes.now a.stages.now a.work.now a.peaks.now c.solve-s.ensures a.steps (asked a.q) c.if-s-ne0.true

pub returns : goal.returns
returns c = let a = c.args in
    value_given a.model.now a.horizon a.nodes.now a.stages.now a.work.now a.peaks.now c.solve-s.ensures a.steps (asked a.q) _ (out c.value.result) c.if-s-ne0.false
    refl c.value.ensures
