-- `whole::limits::mul_within` meets its contract.
use Rattle.whole.proofs.Signed.{abs_back}
use Rattle.whole.proofs.Laws.{product_zero, product_fits, product_is, product_over}
use Rattle.whole.proofs.limits.mul_within.Goals as goal

pub returns-then-p-eq0 : goal.returns-then-p-eq0
returns-then-p-eq0 c = product_zero c.args.a c.args.b c.ranges.a c.ranges.b _ (abs_back c.args.a c.ranges.a c.mag-p.ensures) c.if-p-eq0.true

pub overflow_mul-result : goal.overflow_mul-result
overflow_mul-result c = product_fits c.args.a c.args.b c.ranges.a c.ranges.b _ _ (abs_back c.args.a c.ranges.a c.mag-p.ensures)
    (abs_back c.args.b c.ranges.b c.mag-q.ensures) c.if-p-eq0.false c.if-q-p.true

pub returns-then-q-p : goal.returns-then-q-p
returns-then-q-p c = product_is c.args.a c.args.b c.ranges.a c.ranges.b _ _ (abs_back c.args.a c.ranges.a c.mag-p.ensures)
    (abs_back c.args.b c.ranges.b c.mag-q.ensures) c.if-p-eq0.false c.if-q-p.true

pub returns-else-q-p : goal.returns-else-q-p
returns-else-q-p c = product_over c.args.a c.args.b c.ranges.a c.ranges.b _ _ (abs_back c.args.a c.ranges.a c.mag-p.ensures)
    (abs_back c.args.b c.ranges.b c.mag-q.ensures) c.if-p-eq0.false c.if-q-p.false
