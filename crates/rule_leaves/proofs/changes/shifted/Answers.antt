use mathlib.Core.Path.{◌∙◌}
use Rattle.whole.proofs.Loops.{add_fits}
use Rattle.theory.specs.Widths.{levels_most}
use Rattle.rule_leaves.proofs.Figures.{shift_node_is}
use Rattle.rule_leaves.proofs.changes.shifted.Goals as goal

pub overflow_add-n : goal.overflow_add-n
overflow_add-n c = add_fits _ _ (c.requires.0.each levels_most) c.requires.1

pub returns : goal.returns
returns c = c.leaf_of.ensures ∙ shift_node_is c.args.x c.args.c c.ranges.c c.requires
