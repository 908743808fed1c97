use mathlib.Core.Path.{◌≡◌, sym, ap, ◌∙◌}
use mathlib.Core.Bool.{false}
use Prim.Native.Nat.{◌-◌}
use native.Mathlib.Omega.{arith}
use lib.ListN.{get_or}
use Rattle.model_progress.specs.GivenFlags.{place, row_given}
use Rattle.model_progress.proofs.Runs.{run_turn, run_done}
use Rattle.model_progress.proofs.given.row.Goals as goal

pub loop-i-init : goal.loop-i-init
unfolding row_given
loop-i-init c = (omega arith, let e : c.args.n - 0 ≡ c.args.n = omega arith in rw e)

pub overflow_add-i : goal.overflow_add-i
overflow_add-i c = omega (arith, c.ranges.n)

pub place-requires : goal.place-requires
place-requires c = c.requires

pub loop-i-preserved : goal.loop-i-preserved
loop-i-preserved c = let t = run_turn (λ k. get_or c.args.flags.now (place c.args.base k c.args.a) false) c.loop-i.i c.args.n c.loop-i-test.true in
    let p = sym (c.has.ensures ∙ ap (λ k. get_or c.args.flags.now k false) c.place.ensures) ∙ c.if-not-has.false in
    (omega arith, sym (rw p at t) ∙ c.loop-i.invariant.1)

pub returns-then-not-has : goal.returns-then-not-has
returns-then-not-has c = let t = run_turn (λ k. get_or c.args.flags.now (place c.args.base k c.args.a) false) c.loop-i.i c.args.n c.loop-i-test.true in
    let p = sym (c.has.ensures ∙ ap (λ k. get_or c.args.flags.now k false) c.place.ensures) ∙ c.if-not-has.true in
    sym (rw p at t) ∙ c.loop-i.invariant.1

pub returns : goal.returns
returns c = sym (run_done (λ k. get_or c.args.flags.now (place c.args.base k c.args.a) false) c.loop-i.i c.args.n c.loop-i-test.false) ∙ c.loop-i.invariant.1
