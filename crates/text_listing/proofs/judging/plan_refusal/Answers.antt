-- `text_listing::judging::plan_refusal` meets its contract: one law for each answer: a stage without a root is 15 (`plan_15`), else a bad node up to
-- the greatest root is 14 (`plan_14`), and else there is none (`plan_none`).
use mathlib.Core.Path.{sym, ap, ◌∙◌}
use Rattle.theory.specs.Value.{good_row}
use Rattle.model_progress.specs.GivenFlags.{site_as}
use Rattle.text_listing.proofs.Every.{every}
use Rattle.text_listing.proofs.Judged.{plan_15, plan_14, plan_none}
use Rattle.text_listing.proofs.judging.plan_refusal.Goals as goal

pub all_rooted-requires : goal.all_rooted-requires
all_rooted-requires c = c.requires

pub returns-then-not-all_rooted : goal.returns-then-not-all_rooted
returns-then-not-all_rooted c = let a = c.args in
    plan_15 (site_as a.site) a.horizon a.nodes.now a.stages.now (sym c.all_rooted.ensures ∙ c.if-not-all_rooted.true)

pub greatest_root-root-requires : goal.greatest_root-root-requires
greatest_root-root-requires c = c.requires

pub returns : goal.returns
returns c = let a = c.args in
    let p = good_row a.site.conditions a.site.actions a.nodes.now in
    plan_none (site_as a.site) a.horizon a.nodes.now a.stages.now (sym c.all_rooted.ensures ∙ c.if-not-all_rooted.false)
    (ap (every p) (sym c.greatest_root-root.ensures) ∙ sym (rw (c.from.ensures, c.from-2.ensures) at c.all_good.ensures) ∙ c.if-not-all_good.false)

pub returns-then-not-all_good : goal.returns-then-not-all_good
returns-then-not-all_good c = let a = c.args in
    let p = good_row a.site.conditions a.site.actions a.nodes.now in
    plan_14 (site_as a.site) a.horizon a.nodes.now a.stages.now (sym c.all_rooted.ensures ∙ c.if-not-all_rooted.false)
    (ap (every p) (sym c.greatest_root-root.ensures) ∙ sym (rw (c.from.ensures, c.from-2.ensures) at c.all_good.ensures) ∙ c.if-not-all_good.true)
