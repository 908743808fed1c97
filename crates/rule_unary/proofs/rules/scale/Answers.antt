use Rattle.rule_unary.proofs.RulesByName.{scale_acts, scale_ran}
use Rattle.rule_unary.proofs.rules.scale.Goals as goal

pub over-requires : goal.over-requires
over-requires c = (c.requires.0, scale_acts c.args.c c.ranges.c c.low_half.ensures c.high_half.ensures, c.requires.1)

pub returns : goal.returns
returns c = scale_ran c.args.c c.ranges.c c.low_half.ensures c.high_half.ensures c.args.f c.over.ensures
