-- `plain_leaf::condition` meets its contract.
use borrow.Author.Tests.{le-leb, lt-leb}
use Rattle.plain_pass.specs.Pass.{condition_holds}
use Rattle.plain_leaf.proofs.condition.Goals as goal

pub returns-then-k-le4 : goal.returns-then-k-le4
unfolding condition_holds
returns-then-k-le4 c = rw (le-leb _ _ c.if-k-le4.true) c.bit.ensures

pub returns-else-k-le4 : goal.returns-else-k-le4
unfolding condition_holds
returns-else-k-le4 c = rw (lt-leb _ _ c.if-k-le4.false) c.bit-else-k-le4.ensures
