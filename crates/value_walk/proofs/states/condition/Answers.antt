-- `value_walk::states::condition` meets its contract.
use Rattle.value_walk.proofs.Accept.{condition_is, condition_far}
use Rattle.value_walk.proofs.states.condition.Goals as goal

pub returns-then-k-le-BITS : goal.returns-then-k-le-BITS
returns-then-k-le-BITS c = condition_is _ _ _ c.requires

pub returns-else-k-le-BITS : goal.returns-else-k-le-BITS
returns-else-k-le-BITS c = condition_far _ _ _ c.ranges.mask.fits c.requires c.if-k-le-BITS.false
