use mathlib.Core.Path.{◌∙◌}
use Rattle.table.proofs.Leaf.{leaf_told}
use Rattle.rule_node.proofs.Meanings.{named_leaf_as, named_branch_as}
use Rattle.rule_tests.proofs.named.Goals as goal

pub divided-requires : goal.divided-requires
divided-requires c = c.requires

pub returns-then-is_leaf : goal.returns-then-is_leaf
returns-then-is_leaf c = named_leaf_as c.args.x
    (leaf_told c.args.x.kind c.struct_told-1.given.0.1 c.is_leaf.ensures
    ∙ c.if-is_leaf.true) c.divided.ensures

pub returns : goal.returns
returns c = named_branch_as c.args.x (leaf_told c.args.x.kind c.struct_told-1.given.0.1 c.is_leaf.ensures ∙ c.if-is_leaf.false)
