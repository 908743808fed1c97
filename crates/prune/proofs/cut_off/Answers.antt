-- `prune::cut_off` meets its contract: an accepted path is what `copy_path` requires (`to_copy`); with the copy as the stage's root the rows up to it
-- are good (`to_make`), and what is made anew of them is `pruned` (`cut_left`).
use mathlib.Core.Path.{◌∙◌}
use Prim.Native.Nat.{◌-◌}
use native.Mathlib.Omega.{arith}
use mir.Facts.{Fits-widen}
use lib.ListN.{length-set}
use Rattle.prune.proofs.CutSteps.{holds, to_copy, to_make, cut_left}
use Rattle.prune.proofs.cut_off.Goals as goal

pub overflow_cast-root : goal.overflow_cast-root
overflow_cast-root c = Fits-widen tt (c.slice_known-3-1.given _)

pub copy_path-copy-requires : goal.copy_path-copy-requires
copy_path-copy-requires c = to_copy c.requires c.greatest_root-last.ensures

pub overflow_cast-stages : goal.overflow_cast-stages
overflow_cast-stages c = let h = holds c.requires c.greatest_root-last.ensures in
    record { fits = omega (arith, c.copy_path-copy.ensures.within, h.few) }

pub overflow_add-last : goal.overflow_add-last
overflow_add-last c = let t = to_copy c.requires c.greatest_root-last.ensures in
    let h = holds c.requires c.greatest_root-last.ensures in
    record { fits = omega (arith, t.2, h.few) }

pub tables_anew-requires : goal.tables_anew-requires
tables_anew-requires c = to_make c.requires c.greatest_root-last.ensures c.copy_path-copy.ensures c.copy_path-copy.auto.nodes

pub shape_of-stages : goal.shape_of-stages
shape_of-stages c = c.tables_anew.auto.stages ∙ length-set c.args.stages.now (c.args.stage - 1) c.copy_path-copy.result

pub returns : goal.returns
returns c = cut_left c.requires c.greatest_root-last.ensures c.copy_path-copy.ensures c.copy_path-copy.auto.nodes c.tables_anew.ensures
