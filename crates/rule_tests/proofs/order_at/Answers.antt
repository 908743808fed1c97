-- `rule_tests::order_at` meets its contract: the kind that it reads and the numbers behind it are the first node's own.
use Rattle.rule_tests.proofs.Ordered.{ordered, index_of, order_stands}
use Rattle.rule_tests.proofs.order_at.Goals as goal

pub returns : goal.returns
returns c = ordered _ _ (order_stands c.args.nodes.now c.args.g c.args.f c.order_to-arg-1.given (index_of _ c.order_to.ensures))
