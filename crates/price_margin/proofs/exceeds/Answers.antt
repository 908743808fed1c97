-- `price_margin::exceeds` meets its contract.
use Rattle.price_margin.proofs.Margins.{exceeds_is, exceeds_none, exceeds_over}
use borrow.Author.Rules.{rules}
use Rattle.price_margin.proofs.exceeds.Goals as goal

pub returns-in-Is : goal.returns-in-Is
returns-in-Is c = exceeds_is _ c.args.v c.args.t _ _ c.in-Is.is c.ranges.v (search rules) c.above.ensures c.more_than.ensures

pub returns-in-None : goal.returns-in-None
returns-in-None c = exceeds_none _ c.args.v c.args.t c.in-None.is

pub returns-in-Over : goal.returns-in-Over
returns-in-Over c = exceeds_over _ c.args.v c.args.t c.in-Over.is
