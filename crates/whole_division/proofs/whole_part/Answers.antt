-- `whole_division::whole_part` meets its contract.
use mathlib.Core.Path.{ap, ◌∙◌}
use Prim.Native.Nat.{◌^◌}
use lib.IntN.{ℤ}
use Rattle.whole.specs.Numerator.{number}
use Rattle.whole_division.specs.Floor.{floor_by, floor_twice}
use Rattle.whole_division.proofs.whole_part.Goals as goal

pub returns : goal.returns
returns c = let a = c.args in
    c.divided_by_power.ensures
    ∙ ap (λ (z : ℤ). floor_by z (a.w ^ a.k)) (c.divided.ensures ∙ ap (λ (z : ℤ). floor_by z a.d) c.from_words.ensures)
    ∙ floor_twice (number a.x) a.d (a.w ^ a.k)
