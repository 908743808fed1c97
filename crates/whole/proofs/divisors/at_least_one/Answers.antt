-- `whole::divisors::at_least_one` meets its contract.
use Rattle.std.proofs.Common.{◌∙◌}
use Rattle.whole.proofs.Euclid.{least_is}
use Rattle.whole.proofs.divisors.at_least_one.Goals as goal

pub returns : goal.returns
returns c = c.max.ensures ∙ least_is c.args.g
