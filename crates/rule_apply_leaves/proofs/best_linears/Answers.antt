-- `rule_apply_leaves::best_linears` meets its contract: linears that differ by a constant are decided by it; the difference of others is over the limits, or else a proper test.
use Rattle.rule_node.proofs.LeafNumbers.{nums_at}
use Rattle.rule_apply_leaves.proofs.Constants.{numbers_there}
use Rattle.rule_apply_leaves.proofs.LeafPairs.{best_over, less_nums, best_constant, best_proper, best_test}
use Rattle.rule_apply_leaves.proofs.best_linears.Goals as goal

pub differ_by_constant-requires : goal.differ_by_constant-requires
differ_by_constant-requires c = (numbers_there c.requires.0 c.args.f c.requires.1.leaf.below, numbers_there c.requires.0 c.args.g c.requires.2.leaf.below)

pub best_constants-requires : goal.best_constants-requires
best_constants-requires c = (numbers_there c.requires.0 c.args.f c.requires.1.leaf.below, numbers_there c.requires.0 c.args.g c.requires.2.leaf.below)

pub returns-then-differ_by_constant : goal.returns-then-differ_by_constant
returns-then-differ_by_constant c = best_constant c.requires.0 c.args.f c.args.g c.requires.1 c.requires.2 c.differ_by_constant.ensures c.if-differ_by_constant.true c.best_constants.ensures

pub less-d-requires : goal.less-d-requires
less-d-requires c = (nums_at c.requires.0 c.args.g c.requires.2.leaf.below c.get.ensures, nums_at c.requires.0 c.args.f c.requires.1.leaf.below c.get-2.ensures)

pub named-requires : goal.named-requires
named-requires c = less_nums c.requires.0 c.args.f c.args.g c.requires.1 c.requires.2 c.get-2.ensures c.get.ensures c.less-d.ensures
    c.within.ensures c.if-within.true

pub join_test-requires : goal.join_test-requires
join_test-requires c = (
  c.requires.0,
  best_proper c.requires.0 c.args.f c.args.g c.requires.1 c.requires.2 c.get-2.ensures c.get.ensures
      c.less-d.ensures c.within.ensures c.if-within.true c.named.ensures,
  c.requires.1.leaf.below,
  c.requires.2.leaf.below,
)

pub returns-then-within : goal.returns-then-within
returns-then-within c = best_test c.requires.0 c.args.f c.args.g c.requires.1 c.requires.2 c.get-2.ensures c.get.ensures c.less-d.ensures
    c.within.ensures c.if-within.true c.named.ensures c.differ_by_constant.ensures c.if-differ_by_constant.false
    c.join_test.ensures

pub returns : goal.returns
returns c = best_over c.requires.0 c.args.f c.args.g c.requires.1 c.requires.2 c.get-2.ensures c.get.ensures c.less-d.ensures
    c.within.ensures c.if-within.false
