-- `planner::reading::planner_value` meets its contract.
use mathlib.Core.Path.{ap, ◌∙◌}
use mathlib.Core.List.{List, [], ◌∷◌}
use lib.IntN.{ℤ}
use Rattle.theory.specs.Value.{value_of}
use Rattle.value_walk.specs.State.{asked_by}
use Rattle.c_answers.proofs.States.{read_back}
use Rattle.c_value_answers.specs.ValueAnswer.{value_answer}
use Rattle.planner.proofs.reading.planner_value.Goals as goal

pub returns : goal.returns
returns c = let a = c.args in
    let n : List ℤ = a.l1 ∷ a.l2 ∷ a.l3 ∷ a.l4 ∷ a.l5 ∷ a.l6 ∷ a.l7 ∷ a.l8 ∷ a.d ∷ [] in
    c.value.ensures
    ∙ ap (λ (l : List ℤ). value_answer (value_of a.bytes.now a.nodes.now a.stages.now a.steps (asked_by a.mask l)) a.out.now)
    (read_back n (c.ranges.l1, (c.ranges.l2, (c.ranges.l3, (c.ranges.l4, (c.ranges.l5, (c.ranges.l6, (c.ranges.l7, (c.ranges.l8, (c.ranges.d, tt))))))))))
