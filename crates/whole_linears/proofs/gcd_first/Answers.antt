use Rattle.std.proofs.Common.{arith, rules}
use Rattle.whole.proofs.Loops.{gcd_none, gcd_more}
use Rattle.whole_linears.proofs.gcd_first.Goals as goal

pub loop-i-init : goal.loop-i-init
loop-i-init c = gcd_none c.args.a c.well_formed.0.1.0.1

pub loop-i-preserved : goal.loop-i-preserved
loop-i-preserved c = gcd_more c.args.a c.well_formed.0.1.0.1 c.loop-i.i _ _ _ (search rules) (λ e. omega (arith, c.loop-i-test.true))
    c.loop-i.invariant (search rules) c.mag.ensures c.gcd-g.ensures
