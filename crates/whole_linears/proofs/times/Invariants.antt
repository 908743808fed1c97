-- `whole_linears::times` meets its contract: the first i numbers of the result are the products, clipped; `product` takes any two numbers, so nothing is required.
use lib.IntN.{pos, ◌*ℤ◌}
use lib.ListN.{get_or}
use Rattle.whole.specs.Linears.{numbers, clipped}
use Rattle.whole.proofs.Filled.{Filled}
use Rattle.whole_linears.proofs.times.Given as goal

abbrev pub invariant-loop-i : goal.invariant-loop-i
invariant-loop-i l = Filled numbers (λ j. clipped (l.k *ℤ get_or l.a j (pos 0))) l.i l.out
