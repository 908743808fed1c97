-- `rule_tests::order_to` meets its contract: the kind that it reads and the numbers behind it are the node's own.
use Rattle.rule_tests.proofs.Ordered.{ordered, index_of, order_read}
use Rattle.rule_tests.proofs.order_to.Goals as goal

pub returns : goal.returns
returns c = ordered _ _ (order_read c.args.nodes.now c.args.g c.order_words-arg-1.given c.args.x _ c.ranges.x.sfits (index_of _ c.order_words.ensures))
