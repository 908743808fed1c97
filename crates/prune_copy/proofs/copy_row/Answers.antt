-- `prune_copy::copy_row` meets its contract: what stands in for the next row lies below row c (`lower_is`), so it can be written as its
-- branch; the row read, turned and put is the step by definition (`stepped`).
use native.Mathlib.Omega.{arith}
use Rattle.prune_copy.proofs.StandIn.{lower_is, stepped}
use Rattle.prune_copy.proofs.copy_row.Goals as goal

pub turned-x-requires : goal.turned-x-requires
turned-x-requires c = omega (arith, lower_is c.requires c.branch-next.ensures c.stand_in-b.ensures, c.requires.copy.within)

pub returns : goal.returns
returns c = stepped c.requires c.branch-next.ensures c.stand_in-b.ensures c.get.ensures c.turned-x.ensures c.put.ensures
