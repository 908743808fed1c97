-- `plain_limits::not_negative` meets its contract.
use Rattle.plain_limits.proofs.Judge.{above_is, above_over}
use Rattle.plain_limits.proofs.not_negative.Goals as goal

pub returns-then-n-le-LIMIT : goal.returns-then-n-le-LIMIT
returns-then-n-le-LIMIT c = above_is c.args.n c.if-n-le-LIMIT.true

pub returns-else-n-le-LIMIT : goal.returns-else-n-le-LIMIT
returns-else-n-le-LIMIT c = above_over c.args.n c.if-n-le-LIMIT.false
