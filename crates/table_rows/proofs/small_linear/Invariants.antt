-- `table_rows::small_linear` meets its contract.
use Prim.Native.Nat.{◌+◌, ◌-◌, ◌*◌}
use Rattle.theory.specs.Widths.{node_words, levels_most}
use Rattle.table_rows.proofs.Rowed.{each_small, So}
use Rattle.table_rows.proofs.small_linear.Given as goal

abbrev pub invariant-loop-i : goal.invariant-loop-i
invariant-loop-i l = So each_small l.nodes ((l.r - 1) * node_words + 1) (levels_most + 1) l.i l.good
