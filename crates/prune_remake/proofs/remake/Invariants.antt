-- `prune_remake::remake` meets its contract: the first i rows are made anew as at most i nodes, so the rows behind stand as they were, and the work
-- words tell where each has gone (`Upto`); a good row fits at its place (`fits_here`), so the next can be made.
use Rattle.prune_remake.proofs.RowsRemade.{Upto}
use Rattle.prune_remake.proofs.remake.Given as goal

abbrev pub invariant-loop-i : goal.invariant-loop-i
invariant-loop-i l = Upto l.cap l.rows l.initial.nodes l.nodes l.initial.work l.work l.count l.i
