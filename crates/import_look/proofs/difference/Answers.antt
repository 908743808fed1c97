-- `import_look::difference` meets its contract: the cases of `tested_of`: two lists of nine numbers that fit have a difference, as `sub` requires; else the left one stands for it.
use mathlib.Core.Path.{sym, ◌∙◌}
use Rattle.import_frames.proofs.Laws.{nine_smalls}
use Rattle.import_look.proofs.Telling.{test_both, test_right, test_left}
use Rattle.import_look.proofs.difference.Goals as goal

pub sub-requires : goal.sub-requires
sub-requires c = (
  nine_smalls (record { long = c.requires.0; within = sym c.all_fit.ensures ∙ c.if-all_fit.true }),
  nine_smalls (record { long = c.requires.1; within = sym c.all_fit-then-all_fit.ensures ∙ c.if-all_fit-2.true }),
)

pub returns-then-all_fit-2 : goal.returns-then-all_fit-2
returns-then-all_fit-2 c = test_both _ _ _ _ c.all_fit.ensures c.if-all_fit.true c.all_fit-then-all_fit.ensures c.if-all_fit-2.true c.sub.ensures

pub returns-else-all_fit-2 : goal.returns-else-all_fit-2
returns-else-all_fit-2 c = test_right _ _ _ c.all_fit.ensures c.if-all_fit.true c.all_fit-then-all_fit.ensures c.if-all_fit-2.false

pub returns-else-all_fit : goal.returns-else-all_fit
returns-else-all_fit c = test_left _ _ _ c.all_fit.ensures c.if-all_fit.false
