use Rattle.std.proofs.Common.{◌∙◌, refl, sym, arith, lit≤, Fits, w64, of_z}
use Rattle.std.proofs.Math.Facts.{of_z-to_z}
use native.Mathlib.Nat.{pow-zero}
use Rattle.whole.proofs.Laws.{power_next, power_stops, power_ends}
use Rattle.whole.proofs.limits.power_within.Goals as goal

pub loop-init : goal.loop-init
loop-init c = (omega arith, sym (pow-zero c.args.w), lit≤ tt)

pub returns-in_err-p : goal.returns-in_err-p
returns-in_err-p c =
    let k = rw (of_z-to_z c.loop.auto.p) at c.loop.invariant in
    c.from_residual.ensures ∙ power_stops c.args.w c.loop.counter c.loop.p-bits c.ranges.w.fits k.1 k.2 c.from.ensures c.mul_within.result c.args.e (omega arith) c.mul_within.ensures (c.in_err-p.was)

pub loop-preserved : goal.loop-preserved
loop-preserved c =
    let k = rw (of_z-to_z c.loop.auto.p) at c.loop.invariant in
    let n = power_next c.args.w c.loop.counter c.loop.p-bits c.ranges.w.fits k.1 k.2 c.from.ensures c.mul_within.result c.in_ok-p.p c.mul_within.ensures (c.in_ok-p.was) in
    let f : Fits w64 (of_z w64 c.in_ok-p.p) = record { fits = omega (arith, n.1) } in
    rw (of_z-to_z f) (omega arith, n.0, n.1)

pub returns : goal.returns
returns c =
    let k = rw (of_z-to_z c.loop.auto.p) at c.loop.invariant in
    power_ends c.args.w c.loop.counter c.loop.p-bits c.ranges.w.fits k.1 k.2 refl c.args.e (omega arith)
