-- `rule_choose::roots::sides_at` meets its contract.
use Rattle.rule_choose.proofs.RootCases.{sides_as}
use Rattle.rule_choose.proofs.roots.sides_at.Goals as goal

pub returns : goal.returns
returns c = sides_as _ _ c.args.f c.args.g c.below_at-x.ensures c.below_at-y.ensures c.first_root.ensures
