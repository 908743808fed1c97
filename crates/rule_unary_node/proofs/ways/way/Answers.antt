-- `rule_unary_node::ways::way` meets its contract: of the order's number only whether it is 1 counts.
use mathlib.Core.Path.{◌∙◌}
use Rattle.rule_unary_node.proofs.WayOn.{way_apart}
use Rattle.rule_unary_node.proofs.ways.way.Goals as goal

pub returns : goal.returns
returns c = c.way_on-2.ensures ∙ way_apart c.args.d c.args.op c.args.o c.if-o-eq1.false
