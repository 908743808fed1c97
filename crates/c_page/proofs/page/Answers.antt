-- `c_page::page` meets its contract: without room in `out` the answer is `short` of what judging with an empty text comes to, and nothing is written
-- (`page_short`); else the pair is put there (`text_whole`). The nine numbers are read back from their bits as they are (`read_back`).
use mathlib.Core.Path.{ap, ◌∙◌}
use mathlib.Core.List.{List, [], ◌∷◌, map}
use lib.IntN.{ℤ}
use Rattle.whole.proofs.Signed.{R32}
use Rattle.theory.specs.Value.{Asked}
use Rattle.value_walk.specs.State.{asked_by}
use Rattle.c_answers.proofs.States.{read_back}
use Rattle.text_page_lines.specs.Page.{page}
use Rattle.c_answers.specs.Texts.{listing_answer}
use Rattle.c_answers.proofs.Listed.{text_whole}
use Rattle.c_page.proofs.Paged.{page_short}
use Rattle.c_page.proofs.page.Goals as goal

pub returns-then-out-lt8 : goal.returns-then-out-lt8
returns-then-out-lt8 c = let a = c.args in
    let n : List ℤ = a.l1 ∷ a.l2 ∷ a.l3 ∷ a.l4 ∷ a.l5 ∷ a.l6 ∷ a.l7 ∷ a.l8 ∷ a.d ∷ [] in
    page_short a.bytes.now a.horizon a.nodes.now a.stages.now (asked_by a.mask (map R32 n)) a.place a.text.now c.if-out-lt8.true
    c.page-v.ensures c.page-v.auto.text c.short.ensures
    ∙ ap (λ (q : Asked). listing_answer (page a.bytes.now a.horizon a.nodes.now a.stages.now q a.text.now a.place) a.text.now a.out.now)
    (ap (asked_by a.mask) (read_back n (c.ranges.l1, (c.ranges.l2, (c.ranges.l3, (c.ranges.l4, (c.ranges.l5, (c.ranges.l6, (c.ranges.l7, (c.ranges.l8, (c.ranges.d, tt)))))))))))

pub returns : goal.returns
returns c = let a = c.args in
    let n : List ℤ = a.l1 ∷ a.l2 ∷ a.l3 ∷ a.l4 ∷ a.l5 ∷ a.l6 ∷ a.l7 ∷ a.l8 ∷ a.d ∷ [] in
    text_whole (page a.bytes.now a.horizon a.nodes.now a.stages.now (asked_by a.mask (map R32 n)) a.text.now a.place) a.text.now
    a.out.now c.if-out-lt8.false c.page-v-2.ensures c.put_pair.ensures.0
    ∙ ap (λ (q : Asked). listing_answer (page a.bytes.now a.horizon a.nodes.now a.stages.now q a.text.now a.place) a.text.now a.out.now)
    (ap (asked_by a.mask) (read_back n (c.ranges.l1, (c.ranges.l2, (c.ranges.l3, (c.ranges.l4, (c.ranges.l5, (c.ranges.l6, (c.ranges.l7, (c.ranges.l8, (c.ranges.d, tt)))))))))))
