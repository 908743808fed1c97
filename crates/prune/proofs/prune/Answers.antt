-- `prune::prune` meets its contract.
use Rattle.prune.proofs.Ends.{refused, cut, taken}
use Rattle.prune.proofs.prune.Goals as goal

pub returns-then-v-ne0 : goal.returns-then-v-ne0
returns-then-v-ne0 c = let a = c.args in
    refused a.model.now a.nodes.now a.stages.now a.work.now a.stage a.turns.now a.multipliers.now c.room-most.ensures
    c.refusal-v.result c.refusal-v.ensures c.if-v-ne0.true

pub cut_off-requires : goal.cut_off-requires
cut_off-requires c = let a = c.args in
    taken a.model.now a.nodes.now a.stages.now a.work.now a.stage a.turns.now a.multipliers.now c.room-most.ensures c.refusal-v.result c.refusal-v.ensures c.if-v-ne0.false

pub returns : goal.returns
returns c = let a = c.args in
    cut a.model.now a.nodes.now a.stages.now a.work.now a.stage a.turns.now a.multipliers.now c.room-most.ensures
    c.refusal-v.result c.refusal-v.ensures c.if-v-ne0.false c.cut_off.ensures
