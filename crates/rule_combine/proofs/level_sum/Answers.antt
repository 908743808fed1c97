-- `rule_combine::level_sum` meets its contract: the first level is scaled, and `add_levels` goes on from it; a stop of either is the sum's stop.
use mathlib.Core.Path.{refl, ◌∙◌}
use native.Mathlib.Omega.{arith}
use Rattle.rule_node.proofs.Outcomes.{stops, ran_passed}
use Rattle.table.proofs.Words.{back}
use Rattle.rule_node.proofs.RuleSteps.{at_in}
use Rattle.rule_combine.proofs.LinearSteps.{levels_stop, levels_ask, levels_made}
use Rattle.rule_combine.proofs.level_sum.Goals as goal

pub number-c-requires : goal.number-c-requires
number-c-requires c = (at_in c.args.i c.requires.0.bare c.requires.1, omega arith)

pub bounds-levels-0 : goal.bounds-levels-0
bounds-levels-0 c = c.requires.2.some

pub overflow_cast-d : goal.overflow_cast-d
overflow_cast-d c = omega (arith, c.shared_slice_known-2-1.given 0)

pub scale-requires : goal.scale-requires
scale-requires c = (c.requires.0, c.requires.2.below 0)

pub returns-in_err-s : goal.returns-in_err-s
returns-in_err-s c = ran_passed (levels_stop c.requires.0 c.args.i c.requires.1 c.requires.2 (back c.number-c.result c.number-c.type_inv ∙ c.number-c.ensures) c.in_err-s.ensures (stops c.in_err-s.field-0.0)) c.from_residual.ensures.1

pub add_levels-requires : goal.add_levels-requires
add_levels-requires c = levels_ask c.requires.0 c.args.i c.requires.1 c.requires.2 (back c.number-c.result c.number-c.type_inv ∙ c.number-c.ensures) c.in_ok-s.ensures refl

pub returns : goal.returns
returns c = levels_made c.requires.0 c.args.i c.requires.1 c.requires.2 (back c.number-c.result c.number-c.type_inv ∙ c.number-c.ensures)
    c.in_ok-s.ensures refl c.add_levels.ensures
