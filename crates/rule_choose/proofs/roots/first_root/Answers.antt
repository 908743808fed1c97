-- `rule_choose::roots::first_root` meets its contract: where either ends, the sides do not depend on the order.
use mathlib.Core.Path.{ap, ◌∙◌}
use Rattle.rule_choose.specs.Choice.{split_of}
use Rattle.rule_choose.proofs.RootCases.{split_high_ends, split_low_ends}
use Rattle.rule_tests.proofs.Ordered.{index_of}
use Rattle.rule_choose.proofs.roots.first_root.Goals as goal
use Rattle.rule_choose.proofs.roots.first_root.Goals.{then-x-via-then-x, then-x-via-else-x+then-y}

pub returns-then-x : goal.returns-then-x
returns-then-x c = elim c.then-x.branch [
  | then-x-via-then-x w ↦ c.split_by.ensures ∙ split_high_ends c.args.x c.args.f c.args.y c.args.g _ w.if-x.true
  | then-x-via-else-x+then-y w ↦ c.split_by.ensures ∙ split_low_ends c.args.x c.args.f c.args.y c.args.g _ w.if-y.true
]

pub returns : goal.returns
returns c = c.split_by-2.ensures ∙ ap (split_of c.args.x c.args.f c.args.y c.args.g) (index_of _ c.order_at.ensures)
