use mathlib.Core.Path.{sym, subst}
use Rattle.import_frames.specs.Frames.{SoundFrame}
use Rattle.import_frames.specs.Kept as kept
use Rattle.import_beyond.proofs.Laws.{frame_over, number_over, at_last}
use Rattle.import_beyond.proofs.beyond.Goals as goal

pub returns-then-s : goal.returns-then-s
returns-then-s c = frame_over c.walk-v.ensures c.if-s.true

pub returns-then-c : goal.returns-then-c
returns-then-c c = number_over c.walk-v.ensures c.if-s.false c.closed-c.ensures c.if-c.true

pub finished-g-requires : goal.finished-g-requires
finished-g-requires c = subst SoundFrame (sym c.closed-c.ensures) (kept.closed_sound _ c.walk-v.ensures.reaches.sound)

pub returns : goal.returns
returns c = at_last c.walk-v.ensures c.if-s.false c.closed-c.ensures c.if-c.false c.finished-g.ensures
