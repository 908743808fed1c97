-- `import_look::skip` meets its contract: without white space the text from i is that from `at`; the first byte that is not blank ends the loop.
use Prim.Native.Nat.{◌-◌}
use lib.ListN.{length}
use Rattle.import_look.proofs.Places.{Skipping}
use Rattle.import_look.proofs.skip.Given as goal

abbrev pub invariant-loop-i : goal.invariant-loop-i
invariant-loop-i l = Skipping l.text l.at l.i
