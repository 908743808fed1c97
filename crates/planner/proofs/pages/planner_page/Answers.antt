-- `planner::pages::planner_page` meets its contract.
use mathlib.Core.Path.{ap, ◌∙◌}
use mathlib.Core.List.{List, [], ◌∷◌}
use lib.IntN.{ℤ}
use Rattle.value_walk.specs.State.{asked_by}
use Rattle.text_page_lines.specs.Page.{page}
use Rattle.c_answers.specs.Texts.{listing_answer}
use Rattle.c_answers.proofs.States.{read_back}
use Rattle.planner.proofs.pages.planner_page.Goals as goal

pub returns : goal.returns
returns c = let a = c.args in
    let n : List ℤ = a.l1 ∷ a.l2 ∷ a.l3 ∷ a.l4 ∷ a.l5 ∷ a.l6 ∷ a.l7 ∷ a.l8 ∷ a.d ∷ [] in
    c.page.ensures
    ∙ ap (λ (l : List ℤ). listing_answer (page a.bytes.now a.horizon a.nodes.now a.stages.now (asked_by a.mask l) a.text.now a.place) a.text.now a.out.now)
    (read_back n (c.ranges.l1, (c.ranges.l2, (c.ranges.l3, (c.ranges.l4, (c.ranges.l5, (c.ranges.l6, (c.ranges.l7, (c.ranges.l8, (c.ranges.d, tt))))))))))
