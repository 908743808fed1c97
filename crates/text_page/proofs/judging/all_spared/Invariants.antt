-- `text_page::judging::all_spared` meets its contract: stages 1 to h are not refused with the number; the first that is
-- decides the whole (`every_false`), and h grows to the last.
use Prim.Native.Nat.{◌≤◌}
use mathlib.Core.Bool.{true}
use mathlib.Core.Path.{◌≡◌}
use Rattle.model_progress.specs.GivenFlags.{site_as}
use Rattle.value_walk.specs.State.{asked}
use Rattle.text_listing.proofs.Every.{every}
use Rattle.text_page.specs.Stages.{spared}
use Rattle.text_page.proofs.judging.all_spared.Given as goal

abbrev pub invariant-loop-h : goal.invariant-loop-h
invariant-loop-h l = (l.h ≤ l.last) × (every (spared (site_as l.site) l.nodes l.stages (asked l.q) l.number) l.h ≡ true)
