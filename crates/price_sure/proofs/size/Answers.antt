-- `price_sure::size` meets its contract.
use Rattle.std.proofs.Common.{◌∙◌}
use Rattle.price_sure.proofs.Entry.{sized}
use Rattle.price_sure.proofs.size.Goals as goal

pub returns : goal.returns
returns c = sized c.args.z c.ranges.z (c.from.ensures ∙ c.unsigned_abs.ensures.value)
