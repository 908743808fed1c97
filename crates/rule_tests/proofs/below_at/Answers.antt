-- `rule_tests::below_at` meets its contract: the words that it reads are the node's own.
use Rattle.rule_tests.proofs.Comparisons.{high_read, low_read, down_read}
use Rattle.rule_tests.proofs.below_at.Goals as goal

pub index-requires : goal.index-requires
index-requires c = high_read c.args.nodes.now c.args.i c.index-arg-1.given c.requires

pub index-requires-2 : goal.index-requires-2
index-requires-2 c = low_read c.args.nodes.now c.args.i c.index-arg-2-1.given c.requires

pub returns : goal.returns
returns c = down_read c.args.nodes.now c.args.i c.is_leaf-arg-1.given c.index-arg-1.given c.index-arg-2-1.given c.is_leaf.ensures c.index.ensures c.index-2.ensures
