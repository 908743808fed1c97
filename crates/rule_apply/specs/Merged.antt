-- The rules that merge two diagrams.
use Rattle.theory.specs.Diagram.{Test, Tree}
use Rattle.theory.specs.Computation.{Comp}
use Rattle.theory.specs.Rules.{node, choose}
use Rattle.rule_apply_leaves.specs.declared.Merge.{Merge}
use Rattle.rule_apply_leaves.specs.declared.Merge.TheVariants.{Sum, Product, Best}

-- what is made of two results over a root
unfoldable pub maker_of : Merge → Test → Tree → Tree → Comp Tree
maker_of Sum = node
maker_of Product = node
maker_of Best = choose
