-- `planner::solving::planner_validate` meets its contract: it hands on what `early` answers.
use mathlib.Core.Path.{ap}
use Rattle.theory.specs.Verdict.{Verdict}
use Rattle.c_answers.proofs.Solved.{model_judged}
use Rattle.planner.proofs.solving.planner_validate.Goals as goal

pub returns : goal.returns
returns c = let e = model_judged c.args.bytes.now c.early.ensures in
    (ap (λ (v : Verdict). v.number) e, ap (λ (v : Verdict). v.place) e)
