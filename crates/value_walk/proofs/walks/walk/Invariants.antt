-- `value_walk::walks::walk` meets its contract.
use Rattle.value_walk.specs.State.{asked}
use Rattle.value_walk.proofs.Down.{Along}
use Rattle.value_walk.proofs.walks.walk.Given as goal

abbrev pub invariant-loop-below : goal.invariant-loop-below
invariant-loop-below l = Along l.n l.a (asked l.q) l.nodes l.root l.r l.below

abbrev pub decreases-loop-below : goal.decreases-loop-below
decreases-loop-below l = l.r
