use Rattle.std.proofs.Common.{◌≡◌, ℕ, ◌^◌, ◌≤◌, ℤ, pos, ◌*ℤ◌, sym, ap, ◌∙◌, subst, arith}
use Rattle.std.specs.Int.Signed.{mag}
use Rattle.whole_division.specs.Words.{whole_as}
use Rattle.whole_wide.specs.Wide.{beyond_from, Holds}
use Rattle.whole_wide.proofs.Powers.{times_one, times_more, stays_large}
use Rattle.whole_wide.proofs.raised.Goals as goal

pub loop-init : goal.loop-init
loop-init c = times_one (whole_as c.args.x) c.args.w

pub returns-in_err-y : goal.returns-in_err-y
returns-in_err-y c = let a = c.args in
    let z = whole_as a.x in
    let turn = ap (λ (v : ℤ). v *ℤ pos a.w) c.loop.invariant ∙ times_more z a.w c.loop.counter in
    subst (Holds beyond_from (z *ℤ pos (a.w ^ a.k))) (sym c.from_residual.ensures)
    (stays_large beyond_from z a.w c.loop.counter a.k c.requires c.loop-test.true (subst (λ (v : ℤ). beyond_from ≤ mag v) turn c.in_err-y.ensures))

pub loop-preserved : goal.loop-preserved
loop-preserved c = let a = c.args in
    c.in_ok-y.ensures ∙ (ap (λ (v : ℤ). v *ℤ pos a.w) c.loop.invariant ∙ times_more (whole_as a.x) a.w c.loop.counter)

pub returns : goal.returns
returns c = let a = c.args in
    let e : c.loop.counter ≡ a.k = omega arith in
    c.loop.invariant ∙ ap (λ (j : ℕ). whole_as a.x *ℤ pos (a.w ^ j)) e
