-- `whole_linears::sub` meets its contract: the first i numbers of the result are the differences; two numbers within the limits have one that fits.
use lib.IntN.{pos, ◌-ℤ◌}
use lib.ListN.{get_or}
use Rattle.whole.specs.Linears.{numbers}
use Rattle.whole.proofs.Filled.{Filled}
use Rattle.whole_linears.proofs.sub.Given as goal

abbrev pub invariant-loop-i : goal.invariant-loop-i
invariant-loop-i l = Filled numbers (λ k. get_or l.a k (pos 0) -ℤ get_or l.b k (pos 0)) l.i l.out
