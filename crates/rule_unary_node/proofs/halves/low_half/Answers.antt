use Rattle.rule_unary_node.proofs.WordHalves.{low_is}
use Rattle.rule_unary_node.proofs.halves.low_half.Goals as goal

pub returns : goal.returns
returns c = low_is c.args.c c.ranges.c c.cast_unsigned.ensures
