-- `planner::solving::planner_solve` meets its contract: without room in `out` the answer is `short` of the early refusal, and nothing runs
-- (`solve_short`); else the pair is put there, and the tables are as the solve left them (`solve_whole`).
use Rattle.theory.specs.Solve.{solve}
use Rattle.c_answers.proofs.Solved.{solve_short, solve_whole}
use Rattle.planner.proofs.solving.planner_solve.Goals as goal

pub returns-then-out-lt8 : goal.returns-then-out-lt8
returns-then-out-lt8 c = let a = c.args in
    solve_short a.bytes.now a.horizon a.nodes.now a.stages.now a.work.now a.peaks.now c.if-out-lt8.true c.early-early.ensures c.short.ensures

pub returns : goal.returns
returns c = let a = c.args in
    let v = c.solve-v in
    solve_whole a.nodes.now a.stages.now a.work.now a.peaks.now a.out.now
    {o = record { number = v.result.number; place = v.result.place; peak = v.result.peak; nodes = v.new.nodes; stages = v.new.stages; work = v.new.work; peaks = v.new.peaks }}
    {v = solve a.bytes.now a.horizon a.nodes.now a.stages.now a.work.now a.peaks.now} c.if-out-lt8.false v.ensures c.put_pair.ensures.0
