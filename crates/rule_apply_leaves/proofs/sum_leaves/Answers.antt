-- `rule_apply_leaves::sum_leaves` meets its contract: the first leaf "none" met is the sum; two linears have the sum that `plus` gives and `make_leaf` judges.
use Rattle.rule_node.proofs.LeafNumbers.{nums_at}
use Rattle.rule_apply_leaves.proofs.LeafPairs.{plain_sum, sum_first, sum_second, sum_made}
use Rattle.rule_apply_leaves.proofs.sum_leaves.Goals as goal

pub returns-then-none_at : goal.returns-then-none_at
returns-then-none_at c = sum_first c.requires.0 c.args.f c.args.g c.requires.1 c.requires.2 c.none_at.ensures c.if-none_at.true

pub returns-then-none_at-2 : goal.returns-then-none_at-2
returns-then-none_at-2 c = sum_second c.requires.0 c.args.f c.args.g c.requires.1 c.requires.2 c.none_at-2.ensures c.if-none_at-2.true

pub plus-s-requires : goal.plus-s-requires
plus-s-requires c = (nums_at c.requires.0 c.args.f c.requires.1.below c.get.ensures, nums_at c.requires.0 c.args.g c.requires.2.below c.get-2.ensures)

pub make_leaf-requires : goal.make_leaf-requires
make_leaf-requires c = (c.requires.0, plain_sum _ _ c.plus-s.ensures)

pub returns : goal.returns
returns c = sum_made c.requires.0 c.args.f c.args.g c.requires.1 c.requires.2 c.plus-s.result c.get.ensures c.get-2.ensures
    c.make_leaf.ensures c.none_at.ensures c.if-none_at.false c.none_at-2.ensures c.if-none_at-2.false
    c.plus-s.ensures
