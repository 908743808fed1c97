-- `solve_value_iteration::run_stages` meets its contract: a stop of loading or of stage 0 is the answer (`unloaded`, `zero_off`), and else what they
-- leave is what `stages` requires; the roots have places for every stage and two more (`stages_fit`).
use mathlib.Core.Path.{◌∙◌}
use native.Mathlib.Omega.{arith}
use Rattle.solve_value_iteration.proofs.LoadPeaks.{words_length}
use Rattle.solve_value_iteration.proofs.Runs.{unloaded, loaded_fits, zero_off, stages_fit, stages_run}
use Rattle.solve_value_iteration.proofs.run_stages.Goals as goal

pub returns-then-loaded-ne0 : goal.returns-then-loaded-ne0
returns-then-loaded-ne0 c = unloaded c.args.model.now c.args.horizon c.load_in_parts-loaded.ensures c.if-loaded-ne0.true

pub raise_peak-requires : goal.raise_peak-requires
raise_peak-requires c = (omega (arith, words_length c.requires.5), loaded_fits c.load_in_parts-loaded.ensures)

pub stage_zero-zero-requires : goal.stage_zero-zero-requires
stage_zero-zero-requires c = (c.requires.0, c.requires.1, c.load_in_parts-loaded.ensures, c.if-loaded-ne0.false, c.load_in_parts-loaded.auto.roots ∙ c.requires.4, c.raise_peak.auto.peaks ∙ words_length c.requires.5)

pub returns-then-zero-ne0 : goal.returns-then-zero-ne0
returns-then-zero-ne0 c = zero_off c.args.model.now c.args.horizon c.load_in_parts-loaded.ensures c.if-loaded-ne0.false c.stage_zero-zero.ensures c.if-zero-ne0.true

pub stages-requires : goal.stages-requires
stages-requires c = (
  c.stage_zero-zero.ensures.ready c.if-zero-ne0.false,
  c.if-zero-ne0.false,
  c.requires.2,
  stages_fit c.args.model.now c.args.horizon
      c.requires.0 c.requires.2 (c.stage_zero-zero.auto.roots ∙ (c.load_in_parts-loaded.auto.roots ∙ c.requires.4)),
  c.stage_zero-zero.auto.peaks ∙ (c.raise_peak.auto.peaks ∙ words_length c.requires.5),
)

pub returns : goal.returns
returns c = stages_run c.args.model.now c.args.horizon c.load_in_parts-loaded.ensures c.if-loaded-ne0.false c.stage_zero-zero.ensures
    c.if-zero-ne0.false c.requires.5 c.raise_peak.ensures c.stages.ensures
