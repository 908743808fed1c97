use native.Mathlib.Omega.{arith}
use Rattle.prune_tables.proofs.Loops.{spread_begins, spread_number, spread_none, spread_ends, few_spread}
use Rattle.prune_tables.proofs.spread_numbers.Goals as goal
use Rattle.prune_tables.proofs.spread_numbers.Goals.{then-stages-h-ne-NO_DIAGRAM, else-stages-h-ne-NO_DIAGRAM}

pub loop-h-init : goal.loop-h-init
loop-h-init c = spread_begins

pub offset_bounds-numbers-k : goal.offset_bounds-numbers-k
offset_bounds-numbers-k c = let S = c.loop-h.invariant in
    record { fits = omega (arith, few_spread S, c.loop-h-test.true) }

pub bounds-numbers-k : goal.bounds-numbers-k
bounds-numbers-k c = let S = c.loop-h.invariant in
    omega (arith, few_spread S, S.len, c.requires, c.loop-h-test.true)

pub overflow_add-k : goal.overflow_add-k
overflow_add-k c = let S = c.loop-h.invariant in
    record { fits = omega (arith, few_spread S, c.loop-h-test.true) }

pub loop-h-preserved : goal.loop-h-preserved
loop-h-preserved c = let S = c.loop-h.invariant in
    let h = c.loop-h-test.true in
    elim c.if-stages-h-ne-NO_DIAGRAM.branch [
      | then-stages-h-ne-NO_DIAGRAM w ↦ spread_number S (omega (arith, S.len, h)) w.if-stages-h-ne-NO_DIAGRAM.true w.stages-is w.k-is
      | else-stages-h-ne-NO_DIAGRAM w ↦ spread_none S (omega (arith, S.len, h)) w.if-stages-h-ne-NO_DIAGRAM.false w.stages-is w.k-is
    ]

pub shape_of-stages : goal.shape_of-stages
shape_of-stages c = c.loop-h.invariant.len

pub returns : goal.returns
returns c = let S = c.loop-h.invariant in
    spread_ends S (omega (arith, S.len, c.loop-h-test.false))
