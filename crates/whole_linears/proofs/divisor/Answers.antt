-- `whole_linears::divisor` meets its contract: the constant's magnitude and the coefficients' divisor have the divisor of all nine (`divisor_is`).
use Rattle.whole.proofs.Loops.{divisor_is}
use Rattle.whole_linears.proofs.divisor.Goals as goal

pub returns : goal.returns
returns c = divisor_is c.args.a _ _ _ _ c.mag-arg-1.given
    c.mag.ensures c.gcd_first.ensures c.gcd.ensures c.at_least_one.ensures
