-- `text_page::judging::refusal` meets its contract.
use mathlib.Core.Path.{sym, ◌∙◌}
use Rattle.model_progress.specs.GivenFlags.{site_as}
use Rattle.value_walk.specs.State.{asked}
use Rattle.text_page.proofs.Outcome.{stages_13, stages_15, stages_14, stages_none}
use Rattle.text_page.proofs.judging.refusal.Goals as goal

pub all_spared-requires : goal.all_spared-requires
all_spared-requires c = c.requires

pub returns-then-not-all_spared : goal.returns-then-not-all_spared
returns-then-not-all_spared c = stages_13 (site_as c.args.site) c.args.horizon c.args.nodes.now c.args.stages.now (asked c.args.q) (sym c.all_spared.ensures ∙ c.if-not-all_spared.true)

pub all_spared-requires-2 : goal.all_spared-requires-2
all_spared-requires-2 c = c.requires

pub returns-then-not-all_spared-2 : goal.returns-then-not-all_spared-2
returns-then-not-all_spared-2 c = stages_15 (site_as c.args.site) c.args.horizon c.args.nodes.now c.args.stages.now (asked c.args.q)
    (sym c.all_spared.ensures ∙ c.if-not-all_spared.false) (sym c.all_spared-2.ensures ∙ c.if-not-all_spared-2.true)

pub all_spared-requires-3 : goal.all_spared-requires-3
all_spared-requires-3 c = c.requires

pub returns : goal.returns
returns c = stages_none (site_as c.args.site) c.args.horizon c.args.nodes.now c.args.stages.now (asked c.args.q)
    (sym c.all_spared.ensures ∙ c.if-not-all_spared.false) (sym c.all_spared-2.ensures ∙ c.if-not-all_spared-2.false)
    (sym c.all_spared-3.ensures ∙ c.if-not-all_spared-3.false)

pub returns-then-not-all_spared-3 : goal.returns-then-not-all_spared-3
returns-then-not-all_spared-3 c = stages_14 (site_as c.args.site) c.args.horizon c.args.nodes.now c.args.stages.now (asked c.args.q)
    (sym c.all_spared.ensures ∙ c.if-not-all_spared.false) (sym c.all_spared-2.ensures ∙ c.if-not-all_spared-2.false)
    (sym c.all_spared-3.ensures ∙ c.if-not-all_spared-3.true)
