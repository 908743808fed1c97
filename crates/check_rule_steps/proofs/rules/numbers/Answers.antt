-- `check_rule_steps::rules::numbers` meets its contract: each answer that fits is one that its rule may take (`Acts`): any number scales, one within the limits shifts, and the others take 1 to 4.
use Rattle.std.proofs.Common.{rules}
use Rattle.rule_unary.proofs.RulesByName.{scale_acts, shift_acts}
use Rattle.check_rule_steps.proofs.Steps.{scales, shifts}
use Rattle.check_rule_steps.proofs.rules.numbers.Goals as goal

pub returns-then-op-lt4 : goal.returns-then-op-lt4
returns-then-op-lt4 c = scales c.requires.0 c.if-op-lt4.true (scale_acts c.args.c c.ranges.c c.low_half.ensures c.high_half.ensures)

pub returns-then-op-lt5 : goal.returns-then-op-lt5
returns-then-op-lt5 c =
    shifts c.if-op-lt4.false c.if-op-lt5.true
    (shift_acts c.args.c c.ranges.c c.low_half-then-op-lt5.ensures c.high_half-then-op-lt5.ensures (record { small = search rules }))
