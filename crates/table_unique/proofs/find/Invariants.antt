-- `table_unique::find` meets its contract: no node of x's bucket from `at` on equals x, and each link is below the one before it (`Walk`).
use Rattle.table_unique.proofs.Chain.{Walk}
use Rattle.table_unique.proofs.find.Given as goal

abbrev pub invariant-loop-at : goal.invariant-loop-at
invariant-loop-at l = Walk l.cap l.nodes l.count l.x l.at

abbrev pub decreases-loop-at : goal.decreases-loop-at
decreases-loop-at l = l.at
