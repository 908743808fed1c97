use Rattle.rule_unary.proofs.RulesByName.{number_acts, number_ran}
use Rattle.rule_unary.proofs.rules.number.Goals as goal

pub over-requires : goal.over-requires
over-requires c = (c.requires.0, number_acts c.requires.2, c.requires.1)

pub returns : goal.returns
returns c = number_ran c.args.f c.args.action c.over.ensures
