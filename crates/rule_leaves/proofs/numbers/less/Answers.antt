use mathlib.Core.Path.{ap, ◌∙◌}
use Rattle.rule_leaves.specs.Leaves.{leaf_node, less_node}
use Rattle.rule_leaves.proofs.numbers.less.Goals as goal

pub returns : goal.returns
unfolding less_node
returns c = c.leaf_of.ensures ∙ ap leaf_node c.sub.ensures
