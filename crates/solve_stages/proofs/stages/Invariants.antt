-- `solve_stages::stages` meets its contract: stages 1 to h stand as roots behind stage 0, and running those behind h on from them gives what running
-- all gives (`Staging`); a stage that stops tells its place.
use mathlib.Core.Path.{◌≡◌}
use lib.ListN.{length}
use Rattle.solve_stages.proofs.StagesAll.{Staging}
use Rattle.solve_stages.proofs.stages.Given as goal

abbrev pub invariant-loop-h : goal.invariant-loop-h
invariant-loop-h l = Staging l.model l.cap l.horizon l.initial.nodes l.initial.roots l.size l.initial.r l.initial.peaks l.nodes l.work l.roots l.r l.peaks l.h × (length l.nodes ≡ length l.initial.nodes) × (length l.work ≡ length l.initial.work) × (length l.roots ≡ length l.initial.roots) × (length l.peaks ≡ length l.initial.peaks)
