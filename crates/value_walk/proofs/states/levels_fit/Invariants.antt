-- `value_walk::states::levels_fit` meets its contract: the numerators from i on are zero where those beyond level m are; the first that is not ends
-- the loop with false (`one_set`), and past the eighth none is left (`all_zero`).
use mathlib.Core.Path.{◌≡◌}
use lib.ListN.{take, drop}
use Rattle.theory.specs.Widths.{levels_most}
use Rattle.theory.specs.Diagram.{zeros}
use Rattle.value_walk.proofs.states.levels_fit.Given as goal

abbrev pub invariant-loop-i : goal.invariant-loop-i
invariant-loop-i l = zeros (drop l.i (take levels_most l.q.n)) ≡ zeros (drop l.m (take levels_most l.q.n))
