use mathlib.Core.Path.{refl, ◌∙◌}
use native.Mathlib.Omega.{arith}
use Rattle.solve_total.proofs.Roots.{on_standing}
use Rattle.solve_total.proofs.Sum.{summing_starts, summing_fits, summing_done, summing_again, summing_stops}
use Rattle.solve_total.proofs.sum_out.Goals as goal

pub loop-k-init : goal.loop-k-init
loop-k-init c = (summing_starts c.requires, refl, refl, refl)

pub overflow_add-held : goal.overflow_add-held
overflow_add-held c = omega (arith, c.loop-k.invariant.0.on.room)

pub overflow_add-chances : goal.overflow_add-chances
overflow_add-chances c = omega (arith, c.loop-k.invariant.0.on.room, c.loop-k.invariant.0.from.ends)

pub overflow_add-k : goal.overflow_add-k
overflow_add-k c = omega (arith, c.loop-k.invariant.0.from.few_conditions)

pub operate-r-requires : goal.operate-r-requires
operate-r-requires c = (on_standing c.loop-k.invariant.0.on, omega arith, c.loop-k.invariant.0.on.room, summing_fits c.loop-k.invariant.0 c.loop-k-test.true)

pub returns-then-r-ne0 : goal.returns-then-r-ne0
returns-then-r-ne0 c = summing_stops c.loop-k.invariant.0 c.loop-k-test.true c.operate-r.ensures c.if-r-ne0.true

pub loop-k-preserved : goal.loop-k-preserved
loop-k-preserved c = (
  summing_again c.loop-k.invariant.0 c.loop-k-test.true c.operate-r.ensures c.if-r-ne0.false
      c.operate-r.auto.roots,
  c.operate-r.auto.nodes ∙ c.loop-k.invariant.1,
  c.operate-r.auto.work
      ∙ c.loop-k.invariant.2,
  c.operate-r.auto.roots ∙ c.loop-k.invariant.3,
)

pub returns : goal.returns
returns c = summing_done c.loop-k.invariant.0 (omega (arith, c.loop-k-test.false))
