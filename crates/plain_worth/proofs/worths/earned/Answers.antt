-- `plain_worth::worths::earned` meets its contract: the power is judged first (`earned_over`), its exponent being 32 at most; then a forbidden reward
-- gives none (`earned_none`), and any other its product with the power, limited (`earned_is`).
use Rattle.std.proofs.Common.{ap, not, ◌∙◌, arith}
use Rattle.plain_worth.proofs.Answers.{exponent_fits, earned_over, earned_none, earned_is}
use Rattle.plain_worth.proofs.worths.earned.Goals as goal

pub overflow_mul-n : goal.overflow_mul-n
overflow_mul-n c = omega (arith, exponent_fits c.args.model.now c.requires.0.ready _ c.args.steps (c.from-n.ensures ∙ c.conditions.ensures) c.requires.2)

pub returns-then-is_none : goal.returns-then-is_none
returns-then-is_none c = earned_over c.args.model.now c.args.steps c.args.a c.args.x c.requires.0 (c.from-n.ensures ∙ c.conditions.ensures) (c.from.ensures ∙ c.weights.ensures) c.power_within-p.ensures (c.is_none.ensures ∙ ap not c.if-is_none.true)

pub reward_at-requires : goal.reward_at-requires
reward_at-requires c = (c.requires.0.ready.accepted, c.requires.0.ready.short, tt, c.requires.3, c.requires.0.fits.flat)

pub returns-in_default : goal.returns-in_default
returns-in_default c = earned_none c.args.model.now c.args.steps c.args.a c.args.x c.requires.0 (c.from-n.ensures ∙ c.conditions.ensures) (c.from.ensures ∙ c.weights.ensures)
    c.power_within-p.ensures c.reward_at.ensures (c.is_none.ensures ∙ ap not c.if-is_none.false) c.in_default.is

pub returns : goal.returns
returns c = earned_is c.args.model.now c.args.steps c.args.a c.args.x c.requires.0 (c.from-n.ensures ∙ c.conditions.ensures) (c.from.ensures ∙ c.weights.ensures)
    c.power_within-p.ensures c.reward_at.ensures _ c.in-Some.is c.narrow.ensures c.times.ensures _
    c.worth_of.ensures
