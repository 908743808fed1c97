-- `price_margin::above` meets its contract.
use Rattle.price_margin.proofs.Margins.{none_above, lies_above}
use Rattle.price_margin.proofs.above.Goals as goal

pub returns-then-v-u : goal.returns-then-v-u
returns-then-v-u c = none_above c.args.v c.args.u c.ranges.v c.ranges.u c.if-v-u.true

pub returns-else-v-u : goal.returns-else-v-u
returns-else-v-u c = lies_above c.args.v c.args.u c.ranges.v c.ranges.u c.if-v-u.false c.abs_diff.ensures
