-- `rule_choose::roots::low_part` meets its contract: where the low operand ends, its part does not depend on the order.
use mathlib.Core.Path.{ap, ◌∙◌}
use Rattle.rule_choose.specs.Choice.{pick_low}
use Rattle.rule_choose.proofs.RootCases.{pick_low_ends, order_words_as}
use Rattle.rule_tests.proofs.Ordered.{index_of}
use Rattle.rule_choose.proofs.roots.low_part.Goals as goal

pub returns-then-y : goal.returns-then-y
returns-then-y c = c.low_by.ensures ∙ pick_low_ends c.args.f c.args.y c.args.g _ c.args.p c.if-y.true

pub returns : goal.returns
returns c = c.low_by-2.ensures ∙ ap (pick_low c.args.p c.args.f c.args.y c.args.g) (order_words_as c.args.k _ c.ranges.k.sfits _ (index_of _ c.order_to.ensures))
