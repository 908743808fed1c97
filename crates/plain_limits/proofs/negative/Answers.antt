-- `plain_limits::negative` meets its contract.
use Rattle.plain_limits.proofs.Judge.{below_fits, below_is, below_over}
use Rattle.plain_limits.proofs.negative.Goals as goal

pub overflow_sub-result : goal.overflow_sub-result
overflow_sub-result c = below_fits c.args.n c.if-n-lt-LIMIT.true

pub returns-then-n-lt-LIMIT : goal.returns-then-n-lt-LIMIT
returns-then-n-lt-LIMIT c = below_is c.args.n c.if-n-lt-LIMIT.true

pub returns-else-n-lt-LIMIT : goal.returns-else-n-lt-LIMIT
returns-else-n-lt-LIMIT c = below_over c.args.n c.if-n-lt-LIMIT.false
