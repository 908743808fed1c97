-- The rules that merge two leaves.
use Rattle.std.specs.Prelude.{ℕ}
use Rattle.theory.specs.Diagram.{Leaf, Tree}
use Rattle.theory.specs.Computation.{Comp}
use Rattle.theory.specs.Rules.{leaf_sum, leaf_product, leaf_best}
use Rattle.rule_node.specs.Codes.{sum_code, product_code, best_code}
use Rattle.rule_apply_leaves.specs.declared.Merge.{Merge}
use Rattle.rule_apply_leaves.specs.declared.Merge.TheVariants.{Sum, Product, Best}

-- a rule's number
abbrev pub code_of : Merge → ℕ
code_of Sum = sum_code
code_of Product = product_code
code_of Best = best_code

-- what is made of two leaves
unfoldable pub leaf_rule : Merge → Leaf → Leaf → Comp Tree
leaf_rule Sum = leaf_sum
leaf_rule Product = leaf_product
leaf_rule Best = leaf_best
