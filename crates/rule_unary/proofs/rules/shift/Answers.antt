use Rattle.rule_unary.proofs.RulesByName.{shift_acts, shift_ran}
use Rattle.rule_unary.proofs.rules.shift.Goals as goal

pub over-requires : goal.over-requires
over-requires c = (c.requires.0, shift_acts c.args.c c.ranges.c c.low_half.ensures c.high_half.ensures c.requires.2, c.requires.1)

pub returns : goal.returns
returns c = shift_ran c.args.c c.ranges.c c.low_half.ensures c.high_half.ensures c.args.f c.over.ensures
