-- `collect_mark::mark` meets its contract: the roots so far are marked, and only nodes that the roots need are; `descend` marks the branches (`Pass`).
use Rattle.collect_mark.proofs.Reach.{Pass}
use Rattle.collect_mark.proofs.mark.Given as goal

abbrev pub invariant-loop-r : goal.invariant-loop-r
invariant-loop-r l = Pass l.cap l.nodes l.initial.work l.work l.roots l.count l.r-index l.count
