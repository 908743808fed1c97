-- `check_rules::leaf` meets its contract: a leaf made lets the table grow.
use Rattle.check_rules.proofs.Steps.{held_grew}
use Rattle.check_rules.proofs.leaf.Goals as goal

pub returns : goal.returns
returns c = held_grew c.requires.0 c.make_leaf.ensures
