-- `plain_limits::judged` meets its contract.
use Rattle.plain_limits.proofs.Judge.{is_below, is_above, cast_fits, cast_is}
use Rattle.plain_limits.proofs.judged.Goals as goal
use Rattle.plain_limits.proofs.judged.Goals.{then-z-lt-LEAST-via-then-z-lt-LEAST, then-z-lt-LEAST-via-else-z-lt-LEAST+then-z-gt-MOST}

pub returns-then-z-lt-LEAST : goal.returns-then-z-lt-LEAST
returns-then-z-lt-LEAST c = elim c.then-z-lt-LEAST.branch [
  | then-z-lt-LEAST-via-then-z-lt-LEAST w ↦ is_below c.args.z c.ranges.z w.if-z-lt-LEAST.true
  | then-z-lt-LEAST-via-else-z-lt-LEAST+then-z-gt-MOST w ↦ is_above c.args.z c.ranges.z w.if-z-lt-LEAST.false w.if-z-gt-MOST.true
]

pub overflow_cast-result : goal.overflow_cast-result
overflow_cast-result c = cast_fits c.args.z c.ranges.z c.if-z-lt-LEAST.false c.if-z-gt-MOST.false

pub returns : goal.returns
returns c = cast_is c.args.z c.ranges.z c.if-z-lt-LEAST.false c.if-z-gt-MOST.false
