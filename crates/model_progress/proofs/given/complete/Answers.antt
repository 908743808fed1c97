use mathlib.Core.Path.{◌≡◌, sym, ◌∙◌}
use Prim.Native.Nat.{◌-◌}
use native.Mathlib.Omega.{arith}
use Rattle.model_progress.specs.GivenFlags.{action_given, all_given, site_as}
use Rattle.model_progress.proofs.Runs.{run_turn, run_done}
use Rattle.model_progress.proofs.given.complete.Goals as goal

pub loop-a-init : goal.loop-a-init
unfolding all_given
loop-a-init c = (omega arith, let e : c.args.site.actions - 0 ≡ c.args.site.actions = omega arith in rw e)

pub overflow_add-a : goal.overflow_add-a
overflow_add-a c = omega (arith, c.well_formed.1.0)

pub loop-a-preserved : goal.loop-a-preserved
loop-a-preserved c = let t = run_turn (action_given c.args.flags.now (site_as c.args.site)) c.loop-a.a c.args.site.actions c.loop-a-test.true in
    let p = sym c.action.ensures ∙ c.if-not-action.false in
    (omega arith, sym (rw p at t) ∙ c.loop-a.invariant.1)

pub returns-then-not-action : goal.returns-then-not-action
returns-then-not-action c = let t = run_turn (action_given c.args.flags.now (site_as c.args.site)) c.loop-a.a c.args.site.actions c.loop-a-test.true in
    let p = sym c.action.ensures ∙ c.if-not-action.true in
    sym (rw p at t) ∙ c.loop-a.invariant.1

pub returns : goal.returns
returns c = sym (run_done (action_given c.args.flags.now (site_as c.args.site)) c.loop-a.a c.args.site.actions c.loop-a-test.false) ∙ c.loop-a.invariant.1
