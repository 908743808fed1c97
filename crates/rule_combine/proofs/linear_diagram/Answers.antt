-- `rule_combine::linear_diagram` meets its contract: the sum of the levels, and its shift by the constant, which node i still has in the grown table.
use mathlib.Core.Path.{refl, ◌∙◌}
use native.Mathlib.Nat.{lt_of_lt_of_le}
use native.Mathlib.Omega.{arith}
use Rattle.rule_node.proofs.Outcomes.{stops, ran_passed}
use Rattle.table.proofs.Words.{back}
use Rattle.rule_node.proofs.RuleSteps.{at_in}
use Rattle.rule_combine.proofs.LinearSteps.{linear_stops, shift_asks, linear_made}
use Rattle.rule_combine.proofs.linear_diagram.Goals as goal

pub level_sum-requires : goal.level_sum-requires
level_sum-requires c = c.requires

pub returns-in_err-s : goal.returns-in_err-s
returns-in_err-s c = ran_passed (linear_stops c.args.i c.requires.1 _ c.in_err-s.ensures (stops c.in_err-s.field-0.0)) c.from_residual.ensures.1

pub number-c-requires : goal.number-c-requires
number-c-requires c = (at_in c.args.i c.in_ok-s.ensures.table.bare (lt_of_lt_of_le c.requires.1 c.in_ok-s.ensures.more), omega arith)

pub shift-requires : goal.shift-requires
shift-requires c = shift_asks c.args.i c.requires.1 _ c.in_ok-s.ensures refl (back c.number-c.result c.number-c.type_inv ∙ c.number-c.ensures)

pub returns : goal.returns
returns c = linear_made c.args.i c.requires.1 _ c.in_ok-s.ensures refl (back c.number-c.result c.number-c.type_inv ∙ c.number-c.ensures) c.shift.ensures
