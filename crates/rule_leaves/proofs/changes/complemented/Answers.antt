use mathlib.Core.Path.{◌∙◌}
use Rattle.whole.proofs.Signed.{small_fits}
use Rattle.theory.specs.Widths.{levels_most}
use Rattle.rule_node.specs.Nodes.{constant_of}
use Rattle.rule_leaves.proofs.Figures.{complement_fits, complement_node_is}
use Rattle.rule_leaves.proofs.changes.complemented.Goals as goal

pub overflow_sub-n : goal.overflow_sub-n
overflow_sub-n c = complement_fits (constant_of c.args.x) c.args.weights (small_fits (constant_of c.args.x) (c.requires.0.each levels_most)).sfits (c.requires.0.each levels_most) c.requires.1

pub returns : goal.returns
returns c = c.leaf_of.ensures ∙ complement_node_is c.args.x c.args.weights c.requires
