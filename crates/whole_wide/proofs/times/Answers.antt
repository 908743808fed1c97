-- `whole_wide::times` meets its contract.
use Rattle.std.proofs.Common.{ℤ, subst}
use Rattle.whole_wide.specs.Wide.{beyond_from, Holds}
use Rattle.whole_wide.proofs.Signs.{times_holds}
use Rattle.whole_wide.proofs.times.Goals as goal

pub returns : goal.returns
returns c = let a = c.args in
    subst (λ (z : ℤ). Holds beyond_from z c.signed.result) (times_holds a.x a.w c.when_below.result c.product-p.result c.requires c.when_below.ensures c.product-p.ensures) c.signed.ensures
