-- `import_linears::all_fit` meets its contract: all numbers fit where those from i on do; the first that does not ends the loop.
use mathlib.Core.Path.{◌≡◌}
use Prim.Native.Nat.{◌≤◌}
use lib.ListN.{drop}
use Rattle.whole.specs.Linears.{numbers}
use Rattle.import_numbers.specs.Numbers.{all_within}
use Rattle.import_linears.proofs.all_fit.Given as goal

abbrev pub invariant-loop-i : goal.invariant-loop-i
invariant-loop-i l = (l.i ≤ numbers) × (all_within (drop l.i l.a) ≡ all_within l.a)
