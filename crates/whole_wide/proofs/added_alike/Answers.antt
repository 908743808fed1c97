-- `whole_wide::added_alike` meets its contract.
use Rattle.std.proofs.Common.{ℤ, subst}
use Rattle.whole_wide.specs.Wide.{beyond_from, Holds}
use Rattle.whole_wide.proofs.Signs.{alike_holds}
use Rattle.whole_wide.proofs.added_alike.Goals as goal

pub returns : goal.returns
returns c = let a = c.args in
    subst (λ (z : ℤ). Holds beyond_from z c.signed.result) (alike_holds a.x a.y c.when_below.result c.sum-s.result c.requires c.when_below.ensures c.sum-s.ensures) c.signed.ensures
