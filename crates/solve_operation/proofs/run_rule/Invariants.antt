-- `solve_operation::run_rule` meets its contract: the count nodes stand as they did and the part has room for them (`Trying`); a run that does not end with 12 in a part ends alike in the whole room. The parts grow.
use Prim.Native.Nat.{◌-◌}
use Rattle.solve_operation.proofs.Parts.{Trying}
use Rattle.solve_operation.proofs.run_rule.Given as goal

abbrev pub invariant-loop-part : goal.invariant-loop-part
invariant-loop-part l = Trying l.cap l.initial.nodes l.initial.work l.count l.nodes l.work l.part

abbrev pub decreases-loop-part : goal.decreases-loop-part
decreases-loop-part l = l.cap - l.part
