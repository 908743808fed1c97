-- `plain_evaluate::weight` meets its contract.
use mathlib.Core.Path.{sym, ap, ◌∙◌}
use lib.IntN.{nat_abs}
use Rattle.whole.specs.Int.{up}
use Rattle.whole.proofs.Signed.{negated, not_negative, abs_back}
use Rattle.plain_evaluate.proofs.weight.Goals as goal

pub returns-then-z-lt0 : goal.returns-then-z-lt0
returns-then-z-lt0 c = sym (ap up (negated c.args.z c.ranges.z c.if-z-lt0.true).is)

pub returns-else-z-lt0 : goal.returns-else-z-lt0
returns-else-z-lt0 c = let d = not_negative c.args.z c.ranges.z c.if-z-lt0.false in
    abs_back c.args.z c.ranges.z c.unsigned_abs.ensures.value ∙ ap nat_abs d.2 ∙ sym (ap up d.2)
