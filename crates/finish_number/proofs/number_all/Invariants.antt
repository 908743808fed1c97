-- `finish_number::number_all` meets its contract: entering the roots that are left after the nodes numbered so far gives what entering all roots gives (`Going`).
use Rattle.finish_number.proofs.Rootwise.{Going}
use Rattle.finish_number.proofs.number_all.Given as goal

abbrev pub invariant-loop-r : goal.invariant-loop-r
invariant-loop-r l = Going l.cap l.nodes l.count l.initial.work l.work l.roots l.r-index l.c
