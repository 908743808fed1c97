use native.Mathlib.Omega.{arith}
use Prim.Native.Nat.{ℕ, ◌+◌, ◌-◌, ◌*◌, ◌≤◌, ◌<◌}
use mathlib.Core.Path.{◌≡◌, subst}
use Rattle.model.proofs.Accepted.{site_accepted}
use Rattle.plain_limits.specs.Totals.{total_of, stopped, is_over}
use Rattle.plain_worth.specs.Worths.{StateWorth}
use Rattle.plain_worth.proofs.Runs.{goes_on, not_stopped, not_last}
use Rattle.plain_worth.proofs.Turns.{sums_start, sums_end, sums_skip, sums_over, sums_add, next_stands, tries_start, tries_end, tries_on}
use Rattle.plain_worth.proofs.worths.+action_worth_state_worth.Goals as goal

to_state : (h t : ℕ) → 1 ≤ h → 2 * h ≡ t → 2 * (h - 1) + 1 < t
to_state h t n e = omega arith

to_action : (h t : ℕ) → 2 * h + 1 ≡ t → 2 * h < t
to_action h t e = omega arith

pub action_worth-loop-x-init : goal.action_worth-loop-x-init
action_worth-loop-x-init t c =
    sums_start c.args.model.now c.args.steps c.args.a c.args.x _ _ c.requires.0 c.requires.1 c.settings-count.ensures c.earned-sum.ensures

pub action_worth-returns-then-settings_done : goal.action_worth-returns-then-settings_done
action_worth-returns-then-settings_done t c =
    sums_end c.args.model.now c.args.steps c.args.a c.args.x _ _ _ c.loop-x.invariant c.settings_done.ensures c.if-settings_done.true

pub action_worth-loop-x-smaller-then-w-eq0 : goal.action_worth-loop-x-smaller-then-w-eq0
action_worth-loop-x-smaller-then-w-eq0 t c =
    omega (arith, goes_on (stopped (total_of c.loop-x.sum)) c.settings-count.result c.loop-x.r _ c.settings_done.ensures c.if-settings_done.false)

pub action_worth-loop-x-preserved-then-w-eq0 : goal.action_worth-loop-x-preserved-then-w-eq0
action_worth-loop-x-preserved-then-w-eq0 t c =
    sums_skip c.args.model.now c.args.steps c.args.a c.args.x _ _ _ c.loop-x.invariant _ c.chances-c.ensures _ c.weight-w.ensures
    (goes_on (stopped (total_of c.loop-x.sum)) c.settings-count.result c.loop-x.r _ c.settings_done.ensures c.if-settings_done.false) c.if-w-eq0.true

pub action_worth-returns-in_default : goal.action_worth-returns-in_default
action_worth-returns-in_default t c =
    sums_over c.args.model.now c.args.steps c.args.a c.args.x _ _ _ c.loop-x.invariant _ c.chances-c.ensures _ c.weight-w.ensures
    (goes_on (stopped (total_of c.loop-x.sum)) c.settings-count.result c.loop-x.r _ c.settings_done.ensures c.if-settings_done.false) c.if-w-eq0.false _ c.next_state.ensures
    (not_stopped (stopped (total_of c.loop-x.sum)) c.settings-count.result c.loop-x.r _ c.settings_done.ensures c.if-settings_done.false) c.in_default.is

pub action_worth-ended-requires : goal.action_worth-ended-requires
action_worth-ended-requires t c =
    (next_stands c.args.model.now c.args.a c.args.x _ _ c.requires.0 c.next_state.ensures _ c.in-Some.is, c.requires.4)

pub action_worth-added-sum-requires : goal.action_worth-added-sum-requires
action_worth-added-sum-requires t c =
    (c.loop-x.invariant.kept, c.weight-w.ensures.bounded)

pub action_worth-loop-x-smaller-then-steps-eq1 : goal.action_worth-loop-x-smaller-then-steps-eq1
action_worth-loop-x-smaller-then-steps-eq1 t c =
    omega (arith, goes_on (stopped (total_of c.loop-x.sum)) c.settings-count.result c.loop-x.r _ c.settings_done.ensures c.if-settings_done.false)

pub action_worth-loop-x-preserved-then-steps-eq1 : goal.action_worth-loop-x-preserved-then-steps-eq1
action_worth-loop-x-preserved-then-steps-eq1 t c =
    sums_add c.args.model.now c.args.steps c.args.a c.args.x _ _ _ c.loop-x.invariant _ c.chances-c.ensures _ c.weight-w.ensures
    (goes_on (stopped (total_of c.loop-x.sum)) c.settings-count.result c.loop-x.r _ c.settings_done.ensures c.if-settings_done.false) c.if-w-eq0.false _ c.next_state.ensures _ c.in-Some.is _
    (subst (λ (h : ℕ). StateWorth c.args.model.now h c.in-Some.y c.ended.result)
    (let e = c.if-steps-eq1.true in let q : 0 ≡ c.args.steps - 1 = omega arith in q) c.ended.ensures) _ c.added-sum.ensures

pub action_worth-state_worth-requires : goal.action_worth-state_worth-requires
action_worth-state_worth-requires t c =
    (to_state c.args.steps t c.requires.2 c.decreases, (next_stands c.args.model.now c.args.a c.args.x _ _ c.requires.0 c.next_state.ensures _ c.in-Some.is, omega (arith, c.requires.3), c.requires.4))

pub action_worth-added-sum-requires-in-loop-x : goal.action_worth-added-sum-requires-in-loop-x
action_worth-added-sum-requires-in-loop-x t c =
    (c.loop-x.invariant.kept, c.weight-w.ensures.bounded)

pub action_worth-loop-x-smaller : goal.action_worth-loop-x-smaller
action_worth-loop-x-smaller t c =
    omega (arith, goes_on (stopped (total_of c.loop-x.sum)) c.settings-count.result c.loop-x.r _ c.settings_done.ensures c.if-settings_done.false)

pub action_worth-loop-x-preserved : goal.action_worth-loop-x-preserved
action_worth-loop-x-preserved t c =
    sums_add c.args.model.now c.args.steps c.args.a c.args.x _ _ _ c.loop-x.invariant _ c.chances-c.ensures _ c.weight-w.ensures
    (goes_on (stopped (total_of c.loop-x.sum)) c.settings-count.result c.loop-x.r _ c.settings_done.ensures c.if-settings_done.false) c.if-w-eq0.false _ c.next_state.ensures _ c.in-Some.is _ c.state_worth.ensures _ c.added-sum-in-loop-x.ensures

pub state_worth-action_worth-requires : goal.state_worth-action_worth-requires
state_worth-action_worth-requires t c =
    (to_action c.args.steps t c.decreases, (c.requires.0, (omega arith, (site_accepted c.args.model.now c.requires.0.ready.accepted).actions.0), omega (arith, c.if-steps-eq0.false), c.requires.1, c.requires.2))

pub state_worth-loop-x-init : goal.state_worth-loop-x-init
state_worth-loop-x-init t c =
    tries_start c.args.model.now c.args.steps c.args.x _ c.actions-last.ensures c.requires.0.ready c.if-steps-eq0.false _ c.action_worth.ensures _ c.numbered-best.ensures

pub state_worth-returns-then-actions_done : goal.state_worth-returns-then-actions_done
state_worth-returns-then-actions_done t c =
    tries_end c.args.model.now c.args.steps c.args.x _ c.actions-last.ensures _ _ c.loop-x.invariant c.actions_done.ensures c.if-actions_done.true

pub state_worth-action_worth-requires-in-loop-x : goal.state_worth-action_worth-requires-in-loop-x
state_worth-action_worth-requires-in-loop-x t c =
    let h = (not_last (is_over (total_of c.loop-x.best)) c.actions-last.result c.loop-x.a _ c.actions_done.ensures c.if-actions_done.false) in
    (to_action c.args.steps t c.decreases, (c.requires.0, (omega (arith, c.loop-x.invariant.low), omega (arith, h, c.actions-last.ensures)), omega (arith, c.if-steps-eq0.false), c.requires.1, c.requires.2))

pub state_worth-overflow_add-a : goal.state_worth-overflow_add-a
state_worth-overflow_add-a t c =
    omega (arith, not_last (is_over (total_of c.loop-x.best)) c.actions-last.result c.loop-x.a _ c.actions_done.ensures c.if-actions_done.false, c.actions-last.ensures, (site_accepted c.args.model.now c.requires.0.ready.accepted).actions.1)

pub state_worth-loop-x-smaller : goal.state_worth-loop-x-smaller
state_worth-loop-x-smaller t c =
    omega (arith, not_last (is_over (total_of c.loop-x.best)) c.actions-last.result c.loop-x.a _ c.actions_done.ensures c.if-actions_done.false)

pub state_worth-loop-x-preserved : goal.state_worth-loop-x-preserved
state_worth-loop-x-preserved t c =
    tries_on c.args.model.now c.args.steps c.args.x _ c.actions-last.ensures _ _ c.loop-x.invariant
    (not_last (is_over (total_of c.loop-x.best)) c.actions-last.result c.loop-x.a _ c.actions_done.ensures c.if-actions_done.false) _ c.action_worth-in-loop-x.ensures _ c.better-best.ensures
