use Rattle.rule_node.proofs.Meanings.{condition_node_is}
use Rattle.rule_tests.proofs.condition.Goals as goal

pub returns : goal.returns
returns c = condition_node_is c.args.k c.requires
