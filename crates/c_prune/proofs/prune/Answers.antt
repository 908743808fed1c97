-- `c_prune::prune` meets its contract: without room in `out` the answer is `short` of the refusal that the path is judged with, and the tables stay
-- (`prune_short`); else the place is put there, and the tables are as the call left them (`prune_whole`).
use mathlib.Core.Path.{ap, ◌∙◌}
use Prim.Native.Nat.{ℕ}
use Rattle.prune_paths.specs.Prune.{prune_refusal, prune}
use Rattle.c_prune.proofs.Answered.{prune_short, prune_whole}
use Rattle.c_prune.proofs.prune.Goals as goal

pub returns-then-out-lt-ANSWER_BYTES : goal.returns-then-out-lt-ANSWER_BYTES
returns-then-out-lt-ANSWER_BYTES c = let a = c.args in
    prune_short a.model.now a.nodes.now a.stages.now a.work.now a.stage a.turns.now a.multipliers.now c.if-out-lt-ANSWER_BYTES.true
    (c.refusal-v.ensures ∙ ap (λ (N : ℕ). prune_refusal a.model.now a.nodes.now a.stages.now N a.stage a.turns.now a.multipliers.now) c.room-most.ensures) c.short.ensures

pub returns : goal.returns
returns c = let a = c.args in
    let v = c.prune-v in
    prune_whole a.nodes.now a.stages.now a.work.now a.out.now
    {o = record { number = v.result.number; place = v.result.place; nodes = v.new.nodes; stages = v.new.stages; work = v.new.work }}
    {v = prune a.model.now a.nodes.now a.stages.now a.work.now a.stage a.turns.now a.multipliers.now} c.if-out-lt-ANSWER_BYTES.false v.ensures c.put_le.ensures
