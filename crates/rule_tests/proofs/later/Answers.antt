use Rattle.rule_tests.proofs.later.Goals as goal

pub returns : goal.returns
returns c = c.condition.ensures
