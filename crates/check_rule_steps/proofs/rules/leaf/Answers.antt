-- `check_rule_steps::rules::leaf` meets its contract: a leaf made lets the table grow.
use Rattle.check_rule_steps.proofs.Steps.{grew}
use Rattle.check_rule_steps.proofs.rules.leaf.Goals as goal

pub returns : goal.returns
returns c = grew c.requires c.make_leaf.ensures
