-- `import_sum_at::sum_at` meets its contract: the frame is over, or its last number is, or the total's numbers decide; closing keeps the frame sound, as `total` requires.
use mathlib.Core.Path.{sym, subst}
use Rattle.import_frames.specs.Frames.{SoundFrame}
use Rattle.import_frames.specs.Kept as kept
use Rattle.import_sum_at.proofs.Laws.{frame_over, number_over, all_fits, some_out}
use Rattle.import_sum_at.proofs.sum_at.Goals as goal

pub returns-then-s : goal.returns-then-s
returns-then-s c = frame_over c.walk-r.ensures c.if-s.true

pub returns-then-c : goal.returns-then-c
returns-then-c c = number_over c.walk-r.ensures c.if-s.false c.closed-c.ensures c.if-c.true

pub total-t-requires : goal.total-t-requires
total-t-requires c = subst SoundFrame (sym c.closed-c.ensures) (kept.closed_sound _ c.walk-r.ensures.reaches.sound)

pub returns-then-all_fit : goal.returns-then-all_fit
returns-then-all_fit c = all_fits c.walk-r.ensures c.if-s.false c.closed-c.ensures c.if-c.false c.total-t.ensures c.all_fit.ensures c.if-all_fit.true

pub returns : goal.returns
returns c = some_out c.walk-r.ensures c.if-s.false c.closed-c.ensures c.if-c.false c.total-t.ensures c.all_fit.ensures c.if-all_fit.false
