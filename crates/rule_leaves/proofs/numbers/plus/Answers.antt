use mathlib.Core.Path.{ap, ◌∙◌}
use Rattle.rule_leaves.specs.Leaves.{leaf_node, sum_node}
use Rattle.rule_leaves.proofs.numbers.plus.Goals as goal

pub returns : goal.returns
unfolding sum_node
returns c = c.leaf_of.ensures ∙ ap leaf_node c.add.ensures
