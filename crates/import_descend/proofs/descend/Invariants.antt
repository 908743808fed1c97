-- `import_descend::descend` meets its contract: what is visited from the first spot on is visited from s on with the list so far (`Walking`); each turn adds an entry, so the room falls.
use Prim.Native.Nat.{◌+◌, ◌-◌}
use lib.ListN.{length}
use Rattle.import_descend.proofs.Entering.{Walking}
use Rattle.import_descend.proofs.descend.Given as goal

abbrev pub invariant-loop-n : goal.invariant-loop-n
invariant-loop-n l = Walking l.text l.initial.s l.initial.list l.initial.n l.s l.list l.n
