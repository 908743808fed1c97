use native.Mathlib.Omega.{arith}
use Rattle.model.proofs.Accepted.{site_accepted}
use Rattle.plain_limits.specs.Totals.{total_of, is_over}
use Rattle.plain_worth.proofs.Runs.{not_last}
use Rattle.price_sure.proofs.Turns.{contests_start, contests_on, contests_end}
use Rattle.price_sure.proofs.contest.Goals as goal

pub action_worth-requires : goal.action_worth-requires
action_worth-requires c = (c.requires.0, (omega arith, (site_accepted c.args.model.now c.requires.0.ready.accepted).actions.0), c.requires.1, c.requires.2, c.requires.3)

pub loop-x-init : goal.loop-x-init
loop-x-init c = contests_start c.args.model.now c.args.steps c.args.x _ c.actions-last.ensures c.requires.0.ready
    (λ z. omega (arith, c.requires.1)) _ c.action_worth.ensures _ c.numbered-best.ensures

pub answer-requires : goal.answer-requires
answer-requires c = (c.requires.1, c.requires.2, c.requires.4.den.least)

pub returns-then-actions_done : goal.returns-then-actions_done
returns-then-actions_done c = contests_end c.args.model.now c.args.steps c.args.x _ c.actions-last.ensures _ _ _ c.loop-x.invariant c.requires.0.ready _ _ _
    c.requires.4 c.actions_done.ensures c.if-actions_done.true _ c.answer.ensures

pub action_worth-t-requires : goal.action_worth-t-requires
action_worth-t-requires c = let h = not_last (is_over (total_of c.loop-x.best)) c.actions-last.result c.loop-x.a _ c.actions_done.ensures c.if-actions_done.false in
    (c.requires.0, (omega (arith, c.loop-x.invariant.tries.low), omega (arith, h, c.actions-last.ensures)), c.requires.1, c.requires.2, c.requires.3)

pub overflow_add-a : goal.overflow_add-a
overflow_add-a c = omega (
  arith,
  not_last (is_over (total_of c.loop-x.best)) c.actions-last.result c.loop-x.a _ c.actions_done.ensures
      c.if-actions_done.false,
  c.actions-last.ensures,
  (site_accepted c.args.model.now c.requires.0.ready.accepted).actions.1,
)

pub loop-x-smaller : goal.loop-x-smaller
loop-x-smaller c = omega (arith, not_last (is_over (total_of c.loop-x.best)) c.actions-last.result c.loop-x.a _ c.actions_done.ensures c.if-actions_done.false)

pub loop-x-preserved : goal.loop-x-preserved
loop-x-preserved c = contests_on c.args.model.now c.args.steps c.args.x _ c.actions-last.ensures _ _ _ c.loop-x.invariant
    c.actions_done.ensures c.if-actions_done.false (not_last (is_over (total_of c.loop-x.best)) c.actions-last.result
    c.loop-x.a _ c.actions_done.ensures c.if-actions_done.false) _ c.action_worth-t.ensures _ c.rival-other.ensures _
    c.better-best.ensures
