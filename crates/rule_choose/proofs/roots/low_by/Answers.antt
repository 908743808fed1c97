-- `rule_choose::roots::low_by` meets its contract.
use mathlib.Core.Path.{ap}
use Rattle.std.specs.Ordering.{ordering_index}
use Rattle.rule_choose.specs.Choice.{pick_low}
use Rattle.rule_choose.proofs.roots.low_by.Goals as goal

pub returns-then-y : goal.returns-then-y
unfolding pick_low
returns-then-y c = simp c.if-y.true c.ended.ensures

pub returns-in-Greater : goal.returns-in-Greater
unfolding pick_low
returns-in-Greater c = simp (ap ordering_index c.in-Greater.is, c.if-y.false) c.right.ensures

pub returns-in-Equal : goal.returns-in-Equal
unfolding pick_low
returns-in-Equal c = simp (ap ordering_index c.in-Equal.is, c.if-y.false) c.ended-in-Equal.ensures

pub returns-in-Less : goal.returns-in-Less
unfolding pick_low
returns-in-Less c = simp (ap ordering_index c.in-Less.is, c.if-y.false) c.ended-in-Less.ensures
