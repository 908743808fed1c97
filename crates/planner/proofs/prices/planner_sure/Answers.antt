-- `planner::prices::planner_sure` meets its contract.
use mathlib.Core.Path.{ap₂, ◌∙◌}
use mathlib.Core.List.{List, [], ◌∷◌}
use lib.IntN.{ℤ}
use Rattle.whole.proofs.Signed.{back32}
use Rattle.value_walk.specs.State.{asked_by}
use Rattle.c_answers.proofs.States.{read_back}
use Rattle.price_change.specs.Sure.{sure_of}
use Rattle.c_sure.specs.Answer.{sure_answer}
use Rattle.planner.proofs.prices.planner_sure.Goals as goal

pub returns : goal.returns
returns c = let a = c.args in
    let n : List ℤ = a.l1 ∷ a.l2 ∷ a.l3 ∷ a.l4 ∷ a.l5 ∷ a.l6 ∷ a.l7 ∷ a.l8 ∷ a.d ∷ [] in
    c.sure.ensures
    ∙ ap₂ (λ (l : List ℤ) (e : ℤ). sure_answer (sure_of a.bytes.now a.steps (asked_by a.mask l) e) a.out.now)
    (read_back n (c.ranges.l1, (c.ranges.l2, (c.ranges.l3, (c.ranges.l4, (c.ranges.l5, (c.ranges.l6, (c.ranges.l7, (c.ranges.l8, (c.ranges.d, tt))))))))))
    (back32 a.e c.ranges.e)
