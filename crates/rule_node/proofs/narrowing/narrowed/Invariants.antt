-- Each turn goes down to a low branch, which lies below.
use mathlib.Core.Path.{◌≡◌}
use Prim.Native.Nat.{◌<◌}
use Rattle.theory.specs.Rules.{narrowed}
use Rattle.rule_node.specs.Nodes.{test_held, tree_at}
use Rattle.rule_node.proofs.narrowing.narrowed.Given as goal

abbrev pub invariant-loop-t : goal.invariant-loop-t
invariant-loop-t l = (l.at < l.count) × (narrowed (test_held l.t) (tree_at l.nodes l.count l.at) ≡ narrowed (test_held l.t) (tree_at l.nodes l.count l.l))

abbrev pub decreases-loop-t : goal.decreases-loop-t
decreases-loop-t l = l.at
