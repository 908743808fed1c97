-- `solve_total::sum_out` meets its contract: summing the conditions behind k out of the last root as it is now runs like summing all of them out of
-- the first one (`Summing`), and the held roots keep their trees.
use mathlib.Core.Path.{◌≡◌}
use lib.ListN.{length}
use Rattle.solve_total.proofs.Sum.{Summing}
use Rattle.solve_total.proofs.sum_out.Given as goal

abbrev pub invariant-loop-k : goal.invariant-loop-k
invariant-loop-k l = Summing l.cap l.initial.nodes l.initial.work l.initial.roots l.held l.chances l.initial.r l.nodes l.work l.roots l.r l.k × (length l.nodes ≡ length l.initial.nodes) × (length l.work ≡ length l.initial.work) × (length l.roots ≡ length l.initial.roots)
