-- `import_emit::write_parts` meets its contract. The invariant `Going` holds for all parts that come at the start; each step is the walk's (`walk_on`) and the writers'.
use mathlib.Core.Path.{◌∙◌}
use Prim.Native.Nat.{◌-◌}
use native.Mathlib.Omega.{arith}
use lib.ListN.{length}
use Rattle.import_emit.proofs.Going.{Going, begun, some_part, going_on, gone_full, gone_all}
use Rattle.import_emit.proofs.write_parts.Given as goal

abbrev pub invariant-loop-i : goal.invariant-loop-i
invariant-loop-i l = Going l.text l.from l.initial.out l.start l.list l.i l.at l.out

abbrev pub decreases-loop-i : goal.decreases-loop-i
decreases-loop-i l = length l.text - l.i
