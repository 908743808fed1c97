-- `plain_leaf::numerators::short_at` meets its contract: the sum with the products from i on is the whole sum, and bounded (`Added`), so each step fits a
-- word; past the point's levels all are 0 (`flat_added`), and with the constant it is the numerator (`sum_is`).
use Rattle.whole.proofs.Products.{Added}
use Rattle.plain_pass.proofs.Sums.{listed}
use Rattle.plain_leaf.proofs.numerators.short_at.Given as goal

abbrev pub invariant-loop-i : goal.invariant-loop-i
invariant-loop-i l = Added (listed l.model l.at) l.x.n l.i l.sum
