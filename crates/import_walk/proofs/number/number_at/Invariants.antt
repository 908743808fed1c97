-- `import_walk::number::number_at` meets its contract: the value so far with the bytes from i on gives the value of all, and is at most `most` (`Counting`).
use Rattle.import_walk.proofs.Loops.{Counting}
use Rattle.import_walk.proofs.number.number_at.Given as goal

abbrev pub invariant-loop-i : goal.invariant-loop-i
invariant-loop-i l = Counting l.text l.from l.most l.value l.i
