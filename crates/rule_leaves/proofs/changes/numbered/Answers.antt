use Rattle.rule_leaves.proofs.Figures.{number_node_is}
use Rattle.rule_leaves.proofs.changes.numbered.Goals as goal

pub returns : goal.returns
returns c = number_node_is c.args.x c.args.action c.requires
