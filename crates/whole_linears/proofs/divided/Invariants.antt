-- `whole_linears::divided` meets its contract: dividing by 1 changes nothing; else the loop has filled so many quotients.
use lib.IntN.{pos}
use lib.ListN.{get_or}
use lib.Signed.{quot_z}
use Rattle.whole.specs.Linears.{numbers, divisor_list}
use Rattle.whole.proofs.Filled.{Filled}
use Rattle.whole_linears.proofs.divided.Given as goal

abbrev pub invariant-loop-i : goal.invariant-loop-i
invariant-loop-i l = Filled numbers (λ k. quot_z (get_or l.a k (pos 0)) (pos (divisor_list l.a))) l.i l.out
