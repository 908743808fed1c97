-- `planner::totals::planner_total` meets its contract.
use mathlib.Core.Path.{ap₂, ◌∙◌}
use mathlib.Core.List.{List, [], ◌∷◌}
use lib.IntN.{ℤ}
use Rattle.value_walk.specs.State.{asked_by}
use Rattle.value_joined.specs.Total.{total_of}
use Rattle.c_answers.proofs.States.{read_back}
use Rattle.c_total.specs.Answer.{total_answer}
use Rattle.planner.proofs.totals.planner_total.Goals as goal

pub returns : goal.returns
returns c = let a = c.args in
    let n : List ℤ = a.l1 ∷ a.l2 ∷ a.l3 ∷ a.l4 ∷ a.l5 ∷ a.l6 ∷ a.l7 ∷ a.l8 ∷ a.d ∷ [] in
    let m : List ℤ = a.k1 ∷ a.k2 ∷ a.k3 ∷ a.k4 ∷ a.k5 ∷ a.k6 ∷ a.k7 ∷ a.k8 ∷ a.e ∷ [] in
    c.total.ensures
    ∙ ap₂ (λ (l k : List ℤ). total_answer (total_of a.bytes.now a.nodes.now a.stages.now (asked_by a.mask l) a.bytes2.now a.nodes2.now a.stages2.now (asked_by a.mask2 k) a.steps) a.out.now)
    (read_back n (c.ranges.l1, (c.ranges.l2, (c.ranges.l3, (c.ranges.l4, (c.ranges.l5, (c.ranges.l6, (c.ranges.l7, (c.ranges.l8, (c.ranges.d, tt))))))))))
    (read_back m (c.ranges.k1, (c.ranges.k2, (c.ranges.k3, (c.ranges.k4, (c.ranges.k5, (c.ranges.k6, (c.ranges.k7, (c.ranges.k8, (c.ranges.e, tt))))))))))
