use native.Mathlib.Omega.{arith}
use mathlib.Core.Path.{ap}
use lib.ListN.{length}
use Rattle.text_decimal.proofs.Numbers.{spaced_negative, spaced_positive, spaced_plain}
use Rattle.text_decimal.proofs.I64Decimal.spaced_len.Goals as goal

pub returns-then-self-lt0 : goal.returns-then-self-lt0
returns-then-self-lt0 c = let n = c.spaced_len-n.ensures in
    let e = spaced_negative c.args.self c.mag.result c.ranges.self c.mag.ensures c.if-self-lt0.true in
    (omega (arith, ap length e, ap length (spaced_plain c.mag.result), n.0), omega (arith, n.1))

pub returns-else-self-lt0 : goal.returns-else-self-lt0
returns-else-self-lt0 c = let n = c.spaced_len-n.ensures in
    let e = spaced_positive c.args.self c.mag.result c.ranges.self c.mag.ensures c.if-self-lt0.false in
    (omega (arith, ap length e, n.0), omega (arith, n.1))
