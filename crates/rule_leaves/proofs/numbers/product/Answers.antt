use mathlib.Core.Path.{◌∙◌}
use Rattle.rule_leaves.proofs.Sums.{product_as}
use Rattle.rule_leaves.proofs.numbers.product.Goals as goal

pub returns : goal.returns
returns c = c.leaf_of.ensures ∙ product_as c.args.k c.args.y c.ranges.k c.times.ensures
