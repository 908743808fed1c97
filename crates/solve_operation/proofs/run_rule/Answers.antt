use native.Mathlib.Omega.{arith}
use Rattle.solve_operation.proofs.Parts.{trying_starts, trying_asks, trying_again, whole_asks, whole_ends, part_ends, not_full}
use Rattle.solve_operation.proofs.run_rule.Goals as goal

pub first_part-part-requires : goal.first_part-part-requires
first_part-part-requires c = let z = c.requires.0 in
    (z.some, z.few, z.room)

pub loop-part-init : goal.loop-part-init
loop-part-init c = trying_starts c.requires.0 c.requires.1 c.first_part-part.ensures

pub attempt-made-requires : goal.attempt-made-requires
attempt-made-requires c = let t = trying_asks c.loop-part.invariant in
    (t.0, t.1, c.requires.2, c.requires.3)

pub returns-then-not-is_full : goal.returns-then-not-is_full
returns-then-not-is_full c = part_ends c.loop-part.invariant c.args.roots.now c.args.rule c.attempt-made.ensures c.attempt-made.auto.nodes c.attempt-made.auto.work (not_full c.attempt-made.result c.is_full.ensures c.if-not-is_full.true)

pub wider_part-part-requires : goal.wider_part-part-requires
wider_part-part-requires c = (c.loop-part.invariant.some, c.requires.0.few, c.loop-part-test.true)

pub loop-part-smaller : goal.loop-part-smaller
loop-part-smaller c = omega (arith, c.wider_part-part.ensures.0, c.loop-part-test.true)

pub loop-part-preserved : goal.loop-part-preserved
loop-part-preserved c = trying_again c.loop-part.invariant c.args.roots.now c.args.rule c.attempt-made.ensures c.attempt-made.auto.nodes c.attempt-made.auto.work c.wider_part-part.ensures

pub attempt-requires : goal.attempt-requires
attempt-requires c = let t = whole_asks c.loop-part.invariant in
    (t.0, t.1, c.requires.2, c.requires.3)

pub returns : goal.returns
returns c = whole_ends c.loop-part.invariant c.args.roots.now c.args.rule c.attempt.ensures
