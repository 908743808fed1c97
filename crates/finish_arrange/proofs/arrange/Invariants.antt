-- `finish_arrange::arrange` meets its contract: the first k places have their nodes, the work words tell where the others stand, and from k on places and numbers are still inverse (`Perm`).
use Rattle.finish_arrange.proofs.Perm.{Perm}
use Rattle.finish_arrange.proofs.arrange.Given as goal

abbrev pub invariant-loop-k : goal.invariant-loop-k
invariant-loop-k l = Perm l.cap l.count l.initial.nodes l.nodes l.initial.work l.work l.k l.c
