-- `rule_unary_node::ways::way_at` meets its contract: only a side compares its condition with the node's test; for a rule below `YES_SIDE` the order counts as 0.
use Rattle.rule_tests.proofs.Ordered.{index_of}
use Rattle.rule_unary_node.proofs.WayOn.{way_other, way_side}
use Rattle.rule_unary_node.proofs.ways.way_at.Goals as goal

pub returns-then-op-lt-YES_SIDE : goal.returns-then-op-lt-YES_SIDE
returns-then-op-lt-YES_SIDE c = way_other _ c.args.op c.args.p c.below_at-d.ensures c.way_on.ensures c.if-op-lt-YES_SIDE.true

pub later-requires : goal.later-requires
later-requires c = c.requires.1 c.if-op-lt-YES_SIDE.false

pub returns : goal.returns
returns c = way_side _ c.args.op c.args.p c.below_at-d.ensures c.later.ensures (index_of _ c.order_from.ensures) c.way_on-2.ensures c.if-op-lt-YES_SIDE.false
