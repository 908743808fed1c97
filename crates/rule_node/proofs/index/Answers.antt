-- `rule_node::index` meets its contract.
use Rattle.table.proofs.Tests.{index_fits}
use Rattle.rule_node.proofs.index.Goals as goal

pub overflow_cast-result : goal.overflow_cast-result
overflow_cast-result c = index_fits c.args.z c.ranges.z c.requires
