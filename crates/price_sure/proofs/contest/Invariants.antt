-- `price_sure::contest` meets its contract: before action a, `best` is the best of those before it and `other` the largest of the others
-- (`Contests`); the loop ends behind the last action or where the best is over, and else a grows.
use Prim.Native.Nat.{◌+◌, ◌-◌}
use Rattle.price_sure.proofs.Turns.{Contests}
use Rattle.price_sure.proofs.contest.Given as goal

abbrev pub invariant-loop-x : goal.invariant-loop-x
invariant-loop-x l = Contests l.model l.steps l.x l.last l.best l.other l.a

abbrev pub decreases-loop-x : goal.decreases-loop-x
decreases-loop-x l = l.last + 1 - l.a
