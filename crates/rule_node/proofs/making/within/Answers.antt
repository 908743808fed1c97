use mathlib.Core.Path.{◌∙◌}
use Rattle.rule_node.proofs.LeafNumbers.{smalls_are}
use Rattle.rule_node.proofs.making.within.Goals as goal

pub returns : goal.returns
returns c = c.within.ensures ∙ smalls_are c.args.x c.well_formed.0.1.1.1.0.1.0.1
