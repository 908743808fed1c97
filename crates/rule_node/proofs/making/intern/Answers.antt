-- `rule_node::making::intern` meets its contract.
use Rattle.rule_node.proofs.TreeMade.{interned_as}
use Rattle.rule_node.proofs.making.intern.Goals as goal

pub returns : goal.returns
returns c = interned_as c.requires.0 c.args.x c.requires.1 c.find_or_make.ensures
