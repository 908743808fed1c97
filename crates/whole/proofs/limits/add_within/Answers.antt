-- `whole::limits::add_within` meets its contract.
use Rattle.std.proofs.Common.{◌+ℤ◌, ap, ◌∙◌, ap₂}
use Rattle.whole.specs.Within.{limited}
use Rattle.whole.proofs.Signed.{back}
use Rattle.whole.proofs.Laws.{sum_fits}
use Rattle.whole.proofs.limits.add_within.Goals as goal

pub overflow_add-a : goal.overflow_add-a
overflow_add-a c = sum_fits c.args.a c.args.b c.ranges.a c.ranges.b c.requires

pub returns : goal.returns
returns c = c.keep.ensures ∙ ap limited (back _ (sum_fits c.args.a c.args.b c.ranges.a c.ranges.b c.requires) ∙ ap₂ ◌+ℤ◌ (back c.args.a c.ranges.a) (back c.args.b c.ranges.b))
