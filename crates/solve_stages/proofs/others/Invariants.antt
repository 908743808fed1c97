-- `solve_stages::others` meets its contract: going on from action a, with the best so far behind what is held, runs like going on from action 2 with
-- the first (`Trying`); the lengths stay.
use mathlib.Core.Path.{◌≡◌}
use lib.ListN.{length}
use Rattle.solve_stages.proofs.StagesOthers.{Trying}
use Rattle.solve_stages.proofs.others.Given as goal

abbrev pub invariant-loop-a : goal.invariant-loop-a
invariant-loop-a l = Trying l.model l.cap l.initial.nodes l.initial.roots l.backup l.actions l.initial.r l.initial.peaks l.nodes l.work l.roots l.r l.peaks l.a × (length l.nodes ≡ length l.initial.nodes) × (length l.work ≡ length l.initial.work) × (length l.roots ≡ length l.initial.roots) × (length l.peaks ≡ length l.initial.peaks)
