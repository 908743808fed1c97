use mathlib.Core.Bool.{true, false}
use Rattle.rule_leaves.proofs.Sums.{decided_is}
use Rattle.rule_leaves.proofs.numbers.decided.Goals as goal

pub returns-then-k-le0 : goal.returns-then-k-le0
returns-then-k-le0 c = decided_is c.args.k c.args.f c.args.g c.ranges.k true c.if-k-le0.true

pub returns-else-k-le0 : goal.returns-else-k-le0
returns-else-k-le0 c = decided_is c.args.k c.args.f c.args.g c.ranges.k false c.if-k-le0.false
