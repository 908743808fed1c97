-- `rule_combine::add_level` meets its contract: the level scaled, then the sum; the diagram at f is still there in the table that scaling leaves.
use mathlib.Core.Path.{refl}
use Rattle.rule_node.proofs.Outcomes.{stops, ran_passed}
use Rattle.whole.proofs.Signed.{back}
use Rattle.rule_combine.proofs.LinearSteps.{level_stops, level_asks, level_added}
use Rattle.rule_combine.proofs.add_level.Goals as goal

pub returns-in_err-t : goal.returns-in_err-t
returns-in_err-t c = ran_passed (level_stops c.args.d c.requires.1 (back c.args.c c.ranges.c) c.in_err-t.ensures (stops c.in_err-t.field-0.0)) c.from_residual.ensures.1

pub merge-requires : goal.merge-requires
merge-requires c = level_asks c.args.d c.requires.1 (back c.args.c c.ranges.c) c.in_ok-t.ensures refl

pub returns : goal.returns
returns c = level_added c.args.d c.requires.1 (back c.args.c c.ranges.c) c.in_ok-t.ensures refl c.merge.ensures
