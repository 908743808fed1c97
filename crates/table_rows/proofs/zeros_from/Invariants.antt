-- `table_rows::zeros_from` meets its contract.
use Prim.Native.Nat.{◌+◌, ◌-◌, ◌*◌}
use Rattle.theory.specs.Widths.{node_words}
use Rattle.table_rows.proofs.Rowed.{each_zero, So}
use Rattle.table_rows.proofs.zeros_from.Given as goal

abbrev pub invariant-loop-i : goal.invariant-loop-i
invariant-loop-i l = So each_zero l.nodes ((l.r - 1) * node_words + l.first) l.count l.i l.good
