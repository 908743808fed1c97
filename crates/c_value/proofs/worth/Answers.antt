-- `c_value::worth` meets its contract.
use mathlib.Core.Path.{ap}
use mathlib.Core.List.{List, [], ◌∷◌, map}
use lib.IntN.{ℤ}
use Rattle.whole.proofs.Signed.{R32}
use Rattle.theory.specs.Plain.{plain_of}
use Rattle.value_walk.specs.State.{asked_by}
use Rattle.c_answers.proofs.States.{read_back}
use Rattle.c_value_answers.proofs.Read.{value_found}
use Rattle.c_value.proofs.worth.Goals as goal

pub returns : goal.returns
returns c = let a = c.args in
    let n : List ℤ = a.l1 ∷ a.l2 ∷ a.l3 ∷ a.l4 ∷ a.l5 ∷ a.l6 ∷ a.l7 ∷ a.l8 ∷ a.d ∷ [] in
    value_found (plain_of a.bytes.now a.steps) {p = asked_by a.mask (map R32 n)} {q = asked_by a.mask n} a.out.now c.value.ensures c.worth.ensures
    (ap (asked_by a.mask) (read_back n (c.ranges.l1, (c.ranges.l2, (c.ranges.l3, (c.ranges.l4, (c.ranges.l5, (c.ranges.l6, (c.ranges.l7, (c.ranges.l8, (c.ranges.d, tt)))))))))))
