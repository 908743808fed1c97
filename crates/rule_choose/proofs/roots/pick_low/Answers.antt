-- `rule_choose::roots::pick_low` meets its contract: of the order's number only whether it is 2 or 1 counts.
use mathlib.Core.Path.{◌∙◌}
use Rattle.rule_choose.proofs.RootCases.{pick_low_before}
use Rattle.rule_choose.proofs.roots.pick_low.Goals as goal

pub returns : goal.returns
returns c = c.low_by-2.ensures ∙ pick_low_before c.args.p c.args.f c.args.y c.args.g c.args.b c.if-b-eq2.false c.if-b-eq1.false
