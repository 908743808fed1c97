-- `solve_value_iteration::load_in_parts` meets its contract: each try has room for a part, and lengths do not change (`Filling`); what does not end with 12 in a part ends alike in the whole room. The parts grow.
use Prim.Native.Nat.{◌-◌}
use Rattle.solve_value_iteration.proofs.Parts.{Filling}
use Rattle.solve_value_iteration.proofs.load_in_parts.Given as goal

abbrev pub invariant-loop-part : goal.invariant-loop-part
invariant-loop-part l = Filling l.cap l.initial.nodes l.initial.work l.initial.roots l.nodes l.work l.roots l.part

abbrev pub decreases-loop-part : goal.decreases-loop-part
decreases-loop-part l = l.cap - l.part
