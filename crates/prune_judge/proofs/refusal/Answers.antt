-- `prune_judge::refusal` meets its contract.
use native.Mathlib.Omega.{arith}
use Rattle.model_progress.specs.GivenFlags.{site_as}
use Rattle.model.specs.Answers.{shown}
use Rattle.prune_judge.proofs.Judged.{early_stops, early_passes, stage_there, plan_there}
use Rattle.prune_judge.proofs.refusal.Goals as goal

pub returns-then-v-ne0 : goal.returns-then-v-ne0
returns-then-v-ne0 c = early_stops _ _ _ _ _ _ _ (shown c.early-v.result) c.early-v.ensures c.if-v-ne0.true

pub overflow_sub-root : goal.overflow_sub-root
overflow_sub-root c = let a = c.args in
    let o = stage_there a.bytes.now a.nodes.now a.stages.now a.most a.stage a.turns.now a.ks.now (shown c.early-v.result) c.early-v.ensures c.if-v-ne0.false in omega arith

pub bounds-stages-stage : goal.bounds-stages-stage
bounds-stages-stage c = let a = c.args in
    let o = stage_there a.bytes.now a.nodes.now a.stages.now a.most a.stage a.turns.now a.ks.now (shown c.early-v.result) c.early-v.ensures c.if-v-ne0.false in omega arith

pub judge_plan-requires : goal.judge_plan-requires
judge_plan-requires c = let a = c.args in
    plan_there a.bytes.now a.nodes.now a.stages.now a.most a.stage a.turns.now a.ks.now (shown c.early-v.result)
    c.early-v.ensures c.if-v-ne0.false (site_as c.site.result) c.site.ensures

pub returns : goal.returns
returns c = early_passes _ _ _ _ _ _ _ (shown c.early-v.result) c.early-v.ensures c.if-v-ne0.false (site_as c.site.result) c.site.ensures (shown c.judge_plan.result) c.judge_plan.ensures
