-- `rule_expect::add_reward` meets its contract: the power judged, then scale, sum and number in turn, each on the table that the one before leaves; a stop of any is the result's stop.
use mathlib.Core.Path.{refl}
use Rattle.rule_node.proofs.Outcomes.{stops, ran_passed}
use Rattle.rule_expect.proofs.RewardSteps.{reward_over, scale_stops, reward_asks, sum_stops, number_asks, rewarded}
use Rattle.rule_expect.proofs.add_reward.Goals as goal

pub returns-in_default : goal.returns-in_default
returns-in_default c = reward_over c.requires.0 c.args.reward c.args.f _ c.args.action c.requires.1 c.requires.2 c.requires.3 c.power_within.ensures c.in_default.is

pub returns-in_err-a : goal.returns-in_err-a
returns-in_err-a c = ran_passed (scale_stops c.requires.0 c.args.reward c.args.f _ c.args.action c.requires.1 c.requires.2 c.requires.3 c.power_within.ensures c.in-Some.is c.in_err-a.ensures (stops c.in_err-a.field-0.0)) c.from_residual.ensures.1

pub merge-requires : goal.merge-requires
merge-requires c = reward_asks c.requires.0 c.args.reward c.args.f _ c.args.action c.requires.1 c.requires.2 c.requires.3 c.power_within.ensures c.in-Some.is c.in_ok-a.ensures refl

pub returns-in_err-b : goal.returns-in_err-b
returns-in_err-b c = ran_passed (sum_stops c.requires.0 c.args.reward c.args.f _ c.args.action c.requires.1 c.requires.2 c.requires.3 c.power_within.ensures
    c.in-Some.is c.in_ok-a.ensures refl c.in_err-b.ensures (stops c.in_err-b.field-0.0)) c.from_residual-in_err-b.ensures.1

pub number-requires : goal.number-requires
number-requires c = number_asks c.requires.0 c.args.reward c.args.f _ c.args.action c.requires.1 c.requires.2 c.requires.3 c.power_within.ensures
    c.in-Some.is c.in_ok-a.ensures refl c.in_ok-b.ensures refl

pub returns : goal.returns
returns c = rewarded c.requires.0 c.args.reward c.args.f _ c.args.action c.requires.1 c.requires.2 c.requires.3 c.power_within.ensures
    c.in-Some.is c.in_ok-a.ensures refl c.in_ok-b.ensures refl c.number.ensures
