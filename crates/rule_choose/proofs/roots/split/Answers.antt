-- `rule_choose::roots::split` meets its contract: of the order's number only whether it is 0 or 1 counts.
use mathlib.Core.Path.{◌∙◌}
use Rattle.rule_choose.proofs.RootCases.{split_above}
use Rattle.rule_choose.proofs.roots.split.Goals as goal

pub returns : goal.returns
returns c = c.split_by-2.ensures ∙ split_above c.args.x c.args.f c.args.y c.args.g c.args.o c.if-o-eq0.false c.if-o-eq1.false
