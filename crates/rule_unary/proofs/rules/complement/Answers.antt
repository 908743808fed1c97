use Rattle.rule_unary.proofs.RulesByName.{complement_acts, complement_ran}
use Rattle.rule_unary.proofs.rules.complement.Goals as goal

pub over-requires : goal.over-requires
over-requires c = (c.requires.0, complement_acts c.requires.2, c.requires.1)

pub returns : goal.returns
returns c = complement_ran c.args.f c.args.weights c.over.ensures
