-- `rule_apply_leaves::combine` meets its contract: `leaf_rule` at each rule is what the code calls.
use Rattle.rule_node.proofs.Outcomes.{grew_as}
use Rattle.rule_apply_leaves.proofs.LeafRules.{is_sum, is_product, is_best}
use Rattle.rule_apply_leaves.proofs.combine.Goals as goal

pub returns-in-Sum : goal.returns-in-Sum
returns-in-Sum c = grew_as (is_sum c.args.rule _ _ c.in-Sum.is) c.sum_leaves.ensures

pub returns-in-Product : goal.returns-in-Product
returns-in-Product c = grew_as (is_product c.args.rule _ _ c.in-Product.is) c.product_leaves.ensures

pub returns-in-Best : goal.returns-in-Best
returns-in-Best c = grew_as (is_best c.args.rule _ _ c.in-Best.is) c.best_leaves.ensures
