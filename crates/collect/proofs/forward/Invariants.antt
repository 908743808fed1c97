-- `collect::forward` meets its contract: the roots so far are forwarded, and the others are as they were.
use Rattle.collect.proofs.Gathers.{Forward}
use Rattle.collect.proofs.forward.Given as goal

abbrev pub invariant-loop-r : goal.invariant-loop-r
invariant-loop-r l = Forward l.work l.cap l.initial.roots l.roots l.r-index
