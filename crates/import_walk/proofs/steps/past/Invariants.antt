-- `import_walk::steps::past` meets its contract: what is behind the first c is the same from i as from the start (`Passing`).
use Rattle.import_walk.proofs.Loops.{Passing}
use Rattle.import_walk.proofs.steps.past.Given as goal

abbrev pub invariant-loop-i : goal.invariant-loop-i
invariant-loop-i l = Passing l.c l.text l.from l.i
