use Rattle.rule_unary.proofs.RulesByName.{side_acts}
use Rattle.rule_unary.proofs.rules.side.Goals as goal

pub over-requires : goal.over-requires
over-requires c = (c.requires.0, side_acts c.requires.1, c.requires.2)

pub returns : goal.returns
returns c = c.over.ensures
