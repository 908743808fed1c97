use Rattle.std.proofs.Common.{◌∙◌, mod-lt, arith}
use Rattle.whole.proofs.Euclid.{gcd_zero, zero_gcd, gcd_step}
use Rattle.whole.proofs.divisors.gcd.Goals as goal

pub returns-then-a-eq0 : goal.returns-then-a-eq0
returns-then-a-eq0 c = zero_gcd _ _ c.if-a-eq0.true

pub loop-y-smaller : goal.loop-y-smaller
loop-y-smaller c = mod-lt c.loop-y.x (omega arith)

pub loop-y-preserved : goal.loop-y-preserved
loop-y-preserved c = gcd_step c.loop-y.x c.loop-y.y c.loop-y-test.true ∙ c.loop-y.invariant

pub returns : goal.returns
returns c = gcd_zero c.loop-y.x c.loop-y.y c.loop-y-test.false ∙ c.loop-y.invariant
