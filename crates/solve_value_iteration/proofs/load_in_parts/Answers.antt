use native.Mathlib.Omega.{arith}
use Rattle.solve_value_iteration.proofs.Parts.{filling_starts, part_space, part_loads, filling_again}
use Rattle.solve_value_iteration.proofs.load_in_parts.Goals as goal

pub first_part-part-requires : goal.first_part-part-requires
first_part-part-requires c = c.requires.2.some

pub loop-part-init : goal.loop-part-init
loop-part-init c = filling_starts c.requires.2 c.first_part-part.ensures

pub load_within-made-requires : goal.load_within-made-requires
load_within-made-requires c = (c.requires.0, c.requires.1, part_space c.loop-part.invariant, omega (arith, c.requires.3, c.loop-part.invariant.roots_length))

pub returns-then-made-ne12 : goal.returns-then-made-ne12
returns-then-made-ne12 c = part_loads c.loop-part.invariant c.load_within-made.auto.nodes c.load_within-made.auto.work c.load_within-made.ensures c.if-made-ne12.true

pub wider_part-part-requires : goal.wider_part-part-requires
wider_part-part-requires c = (c.loop-part.invariant.some, c.requires.2.few, c.loop-part-test.true)

pub loop-part-smaller : goal.loop-part-smaller
loop-part-smaller c = omega (arith, c.wider_part-part.ensures.0, c.loop-part-test.true)

pub loop-part-preserved : goal.loop-part-preserved
loop-part-preserved c = filling_again c.loop-part.invariant c.load_within-made.auto.nodes c.load_within-made.auto.work c.load_within-made.auto.roots c.wider_part-part.ensures

pub load_within-requires : goal.load_within-requires
load_within-requires c = (c.requires.0, c.requires.1, c.loop-part.invariant.space, omega (arith, c.requires.3, c.loop-part.invariant.roots_length))

pub returns : goal.returns
returns c = c.load_within.ensures
