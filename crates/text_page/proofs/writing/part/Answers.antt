-- `text_page::writing::part` meets its contract.
use mathlib.Core.Path.{ap, ◌∙◌}
use Prim.Native.Nat.{ℕ, ◌*◌, ◌^◌}
use native.Mathlib.Nat.{mul-le-mul}
use native.Mathlib.Omega.{arith}
use Rattle.whole.specs.Numerator.{number}
use Rattle.theory.specs.Widths.{steps_most}
use Rattle.whole_division.specs.Floor.{floor_by}
use Rattle.text_page.proofs.Read.{den_fits, den_is}
use Rattle.text_page.proofs.writing.part.Goals as goal

pub overflow_cast-d : goal.overflow_cast-d
overflow_cast-d c = den_fits c.args.d c.ranges.d.sfits c.requires.1

pub overflow_mul-site : goal.overflow_mul-site
overflow_mul-site c = omega (arith, mul-le-mul {n₁ = c.args.site.conditions} {m₁ = c.args.h} {n₂ = 255} {m₂ = steps_most} (omega arith) c.requires.2)

pub whole_part-requires : goal.whole_part-requires
whole_part-requires c = (omega (arith, den_is c.args.d c.ranges.d.sfits c.requires.1, c.requires.1), c.requires.0)

pub returns : goal.returns
returns c = c.whole_part.ensures ∙ ap (λ (k : ℕ). floor_by (number c.args.x) (k * c.args.site.weights ^ (c.args.site.conditions * c.args.h))) (den_is c.args.d c.ranges.d.sfits c.requires.1)
