-- `prune_judge::judge_plan` meets its contract: one law for each way out, in the order of `plan_verdict` (`says_15` to `says_0`); where all nodes up
-- to the greatest root are good the stage's own root is too (`root_good`), as `path_number` requires.
use mathlib.Core.Path.{◌∙◌}
use Rattle.model_progress.specs.GivenFlags.{site_as}
use Rattle.prune_judge.proofs.Judged.{says_15, says_14, root_good, says_path, says_12, says_0}
use Rattle.prune_judge.proofs.judge_plan.Goals as goal

pub returns-then-root-eq0 : goal.returns-then-root-eq0
returns-then-root-eq0 c = c.refused.ensures ∙ says_15 _ _ _ _ _ _ _ _ c.if-root-eq0.true

pub returns-then-not-all_good : goal.returns-then-not-all_good
returns-then-not-all_good c = c.refused-then-not-all_good.ensures ∙ says_14 (site_as c.args.site) _ _ _ _ _ _ _ c.if-root-eq0.false c.greatest_root-last.result
    c.greatest_root-last.ensures c.all_good.result (rw (c.from.ensures, c.from-2.ensures) at c.all_good.ensures) c.if-not-all_good.true

pub path_number-k-requires : goal.path_number-k-requires
path_number-k-requires c = let a = c.args in
    root_good (site_as a.site) a.nodes.now a.stages.now a.most a.stage a.root a.turns.now a.ks.now c.if-root-eq0.false
    c.greatest_root-last.result c.greatest_root-last.ensures c.all_good.result (rw (c.from.ensures, c.from-2.ensures) at c.all_good.ensures) c.if-not-all_good.false
    c.requires.0 c.requires.2

pub returns-then-k-ne0 : goal.returns-then-k-ne0
returns-then-k-ne0 c = c.refused-then-k-ne0.ensures ∙ says_path (site_as c.args.site) _ _ _ _ _ _ _ c.if-root-eq0.false c.greatest_root-last.result
    c.greatest_root-last.ensures c.all_good.result (rw (c.from.ensures, c.from-2.ensures) at c.all_good.ensures) c.if-not-all_good.false
    c.path_number-k.result c.path_number-k.ensures c.if-k-ne0.true

pub returns-then-exceeds : goal.returns-then-exceeds
returns-then-exceeds c = c.refused-then-exceeds.ensures ∙ says_12 (site_as c.args.site) _ _ _ _ _ _ _ c.if-root-eq0.false c.greatest_root-last.result
    c.greatest_root-last.ensures c.all_good.result (rw (c.from.ensures, c.from-2.ensures) at c.all_good.ensures) c.if-not-all_good.false
    c.path_number-k.result c.path_number-k.ensures c.if-k-ne0.false c.exceeds.result
    c.exceeds.ensures c.if-exceeds.true

pub returns : goal.returns
returns c = c.refused-2.ensures ∙ says_0 (site_as c.args.site) _ _ _ _ _ _ _ c.if-root-eq0.false c.greatest_root-last.result
    c.greatest_root-last.ensures c.all_good.result (rw (c.from.ensures, c.from-2.ensures) at c.all_good.ensures) c.if-not-all_good.false
    c.path_number-k.result c.path_number-k.ensures c.if-k-ne0.false c.exceeds.result
    c.exceeds.ensures c.if-exceeds.false
