-- `c_sure::sure` meets its contract.
use mathlib.Core.Path.{ap}
use mathlib.Core.List.{List, [], ◌∷◌, map}
use lib.IntN.{ℤ}
use Rattle.whole.proofs.Signed.{R32, back32}
use Rattle.value_walk.specs.State.{asked_by}
use Rattle.c_answers.proofs.States.{read_back}
use Rattle.price_change.specs.Sure.{sure_of}
use Rattle.c_sure.proofs.Given.{sure_given}
use Rattle.c_sure.proofs.sure.Goals as goal

pub returns : goal.returns
returns c = let a = c.args in
    let n : List ℤ = a.l1 ∷ a.l2 ∷ a.l3 ∷ a.l4 ∷ a.l5 ∷ a.l6 ∷ a.l7 ∷ a.l8 ∷ a.d ∷ [] in
    sure_given (sure_of a.bytes.now a.steps) {p = asked_by a.mask (map R32 n)} {q = asked_by a.mask n} {c = R32 a.e} {e = a.e} a.out.now c.answer.ensures c.sure.ensures
    (ap (asked_by a.mask) (read_back n (c.ranges.l1, (c.ranges.l2, (c.ranges.l3, (c.ranges.l4, (c.ranges.l5, (c.ranges.l6, (c.ranges.l7, (c.ranges.l8, (c.ranges.d, tt)))))))))))
    (back32 a.e c.ranges.e)
