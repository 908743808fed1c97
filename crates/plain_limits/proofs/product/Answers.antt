-- `plain_limits::product` meets its contract.
use Rattle.plain_limits.proofs.Judge.{product_as, short_fits, short_is}
use Rattle.plain_limits.proofs.product.Goals as goal

pub returns-then-unsigned_abs-gt-SHORT : goal.returns-then-unsigned_abs-gt-SHORT
returns-then-unsigned_abs-gt-SHORT c = product_as c.args.a c.args.b c.ranges.a c.ranges.b c.mul_within.ensures

pub overflow_mul-result : goal.overflow_mul-result
overflow_mul-result c = short_fits c.args.a c.args.b c.ranges.a c.ranges.b c.unsigned_abs.ensures.value c.unsigned_abs-else-unsigned_abs-gt-SHORT.ensures.value c.if-unsigned_abs-gt-SHORT.false c.if-unsigned_abs-gt-SHORT-2.false

pub returns : goal.returns
returns c = short_is c.args.a c.args.b c.ranges.a c.ranges.b c.unsigned_abs.ensures.value c.unsigned_abs-else-unsigned_abs-gt-SHORT.ensures.value c.if-unsigned_abs-gt-SHORT.false c.if-unsigned_abs-gt-SHORT-2.false
