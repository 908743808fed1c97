-- `prune_copy::turned` meets its contract.
use Rattle.prune_copy.proofs.StandIn.{stored_high, stored_low}
use Rattle.prune_copy.proofs.turned.Goals as goal

pub returns-then-high : goal.returns-then-high
returns-then-high c = stored_high c.args.x c.args.b c.requires c.if-high.true

pub returns-else-high : goal.returns-else-high
returns-else-high c = stored_low c.args.x c.args.b c.requires c.if-high.false
