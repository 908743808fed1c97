-- `rule_node::making::join` meets its contract.
use mathlib.Core.Path.{ap}
use Rattle.table.specs.declared.Node.{Node}
use Rattle.theory.specs.Rules.{node}
use Rattle.rule_node.specs.Nodes.{test_held, tree_at}
use Rattle.rule_node.proofs.BranchNode.{proper_as}
use Rattle.rule_node.proofs.Outcomes.{grew_as}
use Rattle.rule_node.proofs.making.join.Goals as goal

pub join_test-requires : goal.join_test-requires
join_test-requires c = (c.requires.0, proper_as c.requires.0 c.requires.1 c.get-x.ensures, c.requires.2, c.requires.3)

pub returns : goal.returns
returns c = grew_as (ap (λ (x : Node). node (test_held x) (tree_at c.args.nodes.now c.args.count c.args.h)
    (tree_at c.args.nodes.now c.args.count c.args.l)) c.get-x.ensures) c.join_test.ensures
