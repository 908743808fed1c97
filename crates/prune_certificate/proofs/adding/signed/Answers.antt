-- `prune_certificate::adding::signed` meets its contract.
use Rattle.prune_certificate.proofs.Signs.{negated_fits, kept_is, negated_is}
use Rattle.prune_certificate.proofs.adding.signed.Goals as goal

pub overflow_sub-result : goal.overflow_sub-result
overflow_sub-result c = negated_fits c.args.k c.requires c.ranges.k

pub returns-then-high : goal.returns-then-high
returns-then-high c = kept_is c.args.k c.args.high c.ranges.k c.if-high.true

pub returns-else-high : goal.returns-else-high
returns-else-high c = negated_is c.args.k c.args.high c.requires c.ranges.k c.if-high.false
