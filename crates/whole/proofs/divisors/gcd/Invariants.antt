-- `whole::divisors::gcd` meets its contract: 0 is divided by every number; else each turn keeps the divisor, and y falls.
use Rattle.std.proofs.Common.{◌≡◌}
use Rattle.whole.specs.Divisor.{gcd_of}
use Rattle.whole.proofs.divisors.gcd.Given as goal

abbrev pub invariant-loop-y : goal.invariant-loop-y
invariant-loop-y l = gcd_of l.x l.y ≡ gcd_of l.a l.b

abbrev pub decreases-loop-y : goal.decreases-loop-y
decreases-loop-y l = l.y
