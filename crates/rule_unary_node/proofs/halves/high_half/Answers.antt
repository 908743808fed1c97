use Rattle.rule_unary_node.proofs.WordHalves.{high_is}
use Rattle.rule_unary_node.proofs.halves.high_half.Goals as goal

pub returns : goal.returns
returns c = high_is c.args.c c.ranges.c c.cast_unsigned.ensures
