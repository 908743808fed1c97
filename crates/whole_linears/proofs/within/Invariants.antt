-- `whole_linears::within` meets its contract: all numbers lie within the limits where those from i on do; the first that does not ends the loop.
use mathlib.Core.Path.{◌≡◌}
use Prim.Native.Nat.{◌≤◌}
use lib.ListN.{drop}
use Rattle.whole.specs.Linears.{numbers, smalls}
use Rattle.whole_linears.proofs.within.Given as goal

abbrev pub invariant-loop-i : goal.invariant-loop-i
invariant-loop-i l = (l.i ≤ numbers) × (smalls (drop l.i l.a) ≡ smalls l.a)
