-- `import_emit_cases::finish` meets its contract. The loop's invariant: the commands written and those that the list stands for are all. The measure is the room that is left: each step writes a byte or more.
use Prim.Native.Nat.{◌-◌}
use lib.ListN.{length}
use Rattle.import_emit_cases.proofs.Looping.{Written}
use Rattle.import_emit_cases.proofs.finish.Given as goal

abbrev pub invariant-loop-n : goal.invariant-loop-n
invariant-loop-n l = Written l.text l.initial.list l.initial.n l.initial.out l.initial.i l.list l.n l.out l.i

abbrev pub decreases-loop-n : goal.decreases-loop-n
decreases-loop-n l = length l.initial.out - l.i
