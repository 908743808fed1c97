-- `plain_worth::worths::action_worth` and `plain_worth::worths::state_worth`, which call each other, meet their contracts: a state lies above its
-- actions, and these above the next states.
use Rattle.std.proofs.Common.{◌+◌, ◌-◌, ◌*◌}
use Rattle.plain_worth.proofs.Turns.{Sums, Tries}
use Rattle.plain_worth.proofs.worths.+action_worth_state_worth.Given as goal

-- 2 h + 1 for a state, 2 h for an action
abbrev pub decreases-action_worth : goal.decreases-action_worth
decreases-action_worth l = 2 * l.steps

abbrev pub decreases-state_worth : goal.decreases-state_worth
decreases-state_worth l = 2 * l.steps + 1

abbrev pub invariant-action_worth-loop-x : goal.invariant-action_worth-loop-x
invariant-action_worth-loop-x l = Sums l.model l.steps l.a l.x l.count l.sum l.r

abbrev pub decreases-action_worth-loop-x : goal.decreases-action_worth-loop-x
decreases-action_worth-loop-x l = l.count - l.r

abbrev pub invariant-state_worth-loop-x : goal.invariant-state_worth-loop-x
invariant-state_worth-loop-x l = Tries l.model l.steps l.x l.last l.best l.a

abbrev pub decreases-state_worth-loop-x : goal.decreases-state_worth-loop-x
decreases-state_worth-loop-x l = l.last + 1 - l.a
