-- `whole::divisors::quot` meets its contract.
use Rattle.whole.proofs.Signed.{quot_fits, quot_is}
use Rattle.whole.proofs.divisors.quot.Goals as goal

pub nonzero_div-result : goal.nonzero_div-result
nonzero_div-result c = (c.requires.0, quot_fits c.args.a c.args.g c.ranges.a c.requires)

pub returns : goal.returns
returns c = quot_is c.args.a c.args.g c.ranges.a c.requires
