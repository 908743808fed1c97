-- `finish::stages::root_numbers` meets its contract: the first j stage words are the numbers of the first j roots, and the others are as they were.
use Prim.Native.Nat.{◌≤◌}
use lib.ListN.{length}
use Rattle.table_clear.proofs.Fill.{Filled}
use Rattle.finish.proofs.Fill.{firsts}
use Rattle.finish.proofs.stages.root_numbers.Given as goal

abbrev pub invariant-loop-j : goal.invariant-loop-j
invariant-loop-j l = Filled (firsts l.work l.cap l.roots l.initial.stages) l.initial.stages l.j l.stages × (l.j ≤ length l.roots)
