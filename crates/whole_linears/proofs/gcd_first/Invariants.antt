-- `whole_linears::gcd_first` meets its contract: g is the divisor of the coefficients from i on, and i falls.
use Rattle.std.proofs.Common.{◌≡◌, take, drop}
use Rattle.whole.specs.Divisor.{gcd_all}
use Rattle.whole.specs.Linears.{coefficients}
use Rattle.whole_linears.proofs.gcd_first.Given as goal

abbrev pub invariant-loop-i : goal.invariant-loop-i
invariant-loop-i l = l.g ≡ gcd_all (drop l.i (take coefficients l.a))
