-- `rule_unary_node::leaf::at_leaf` meets its contract: a leaf that stays is its own result; a numbered one is valid as it is, and one of a new linear is judged by `make_leaf`.
use Rattle.rule_unary_node.proofs.LeafResults.{leaf_kept, leaf_nums, leaf_plain, leaf_judged, leaf_valid, leaf_numbered}
use Rattle.rule_unary_node.proofs.leaf.at_leaf.Goals as goal

pub returns-then-stays : goal.returns-then-stays
returns-then-stays c = leaf_kept c.requires.0 c.requires.1 c.requires.2 c.stays.ensures c.if-stays.true

pub acted-y-requires : goal.acted-y-requires
acted-y-requires c = (leaf_nums c.requires.0 c.requires.1 c.requires.2 c.get.ensures, c.requires.1)

pub intern-requires : goal.intern-requires
intern-requires c = (c.requires.0, leaf_valid c.requires.0 c.requires.1 c.requires.2 c.get.ensures c.acted-y.ensures c.stays.ensures c.if-stays.false c.if-op-gt-COMPLEMENT.true)

pub returns-then-op-gt-COMPLEMENT : goal.returns-then-op-gt-COMPLEMENT
returns-then-op-gt-COMPLEMENT c = leaf_numbered c.requires.0 c.requires.1 c.requires.2 c.get.ensures c.acted-y.ensures c.stays.ensures c.if-stays.false c.if-op-gt-COMPLEMENT.true c.intern.ensures

pub make_leaf-requires : goal.make_leaf-requires
make_leaf-requires c = (c.requires.0, leaf_plain c.requires.0 c.requires.1 c.requires.2 c.get.ensures c.acted-y.ensures c.if-op-gt-COMPLEMENT.false)

pub returns : goal.returns
returns c = leaf_judged c.requires.0 c.requires.1 c.requires.2 c.get.ensures c.acted-y.ensures c.stays.ensures c.if-stays.false c.if-op-gt-COMPLEMENT.false c.make_leaf.ensures
