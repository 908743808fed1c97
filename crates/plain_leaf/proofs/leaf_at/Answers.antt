-- `plain_leaf::leaf_at` meets its contract.
use mathlib.Core.Path.{refl}
use native.Mathlib.Omega.{arith}
use Rattle.plain_leaf.proofs.leaf_at.Goals as goal

pub pass_from-requires : goal.pass_from-requires
pass_from-requires c = (c.requires, record { long = refl; few = omega arith })
