-- `finish_arrange::rewrite` meets its contract: the nodes before i have their branches' numbers, and those from i on are as they were.
use Rattle.finish_arrange.proofs.Rewrites.{Rewrite}
use Rattle.finish_arrange.proofs.rewrite.Given as goal

abbrev pub invariant-loop-i : goal.invariant-loop-i
invariant-loop-i l = Rewrite l.cap l.count l.initial.nodes l.nodes l.work l.i
