-- `collect_mark::descend` meets its contract: `mark_down` from i gives, on the words so far, what it gives from count on those at the entry.
use Rattle.collect_mark.proofs.Steps.{Descent}
use Rattle.collect_mark.proofs.descend.Given as goal

abbrev pub invariant-loop-i : goal.invariant-loop-i
invariant-loop-i l = Descent l.nodes l.initial.work l.work l.count l.i
