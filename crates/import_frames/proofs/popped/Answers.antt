-- `import_frames::popped` meets its contract: closing and finishing keep the frame sound, as the next call requires; a frame that is over is the answer.
use mathlib.Core.Path.{sym, ap, ◌∙◌, subst}
use Rattle.import_frames.specs.declared.Frame.{Frame}
use Rattle.import_frames.specs.Frames.{SoundFrame, closed, finished, entered, popped}
use Rattle.import_frames.specs.Kept as kept
use Rattle.import_frames.proofs.Laws.{yes, no}
use Rattle.import_frames.proofs.popped.Goals as goal

pub returns-then-c : goal.returns-then-c
unfolding popped
returns-then-c c = yes (closed c.args.s).beyond _ _ (ap (λ (g : Frame). g.beyond) c.closed-c.ensures) c.if-c.true c.closed-c.ensures

pub finished-g-requires : goal.finished-g-requires
finished-g-requires c = subst SoundFrame (sym c.closed-c.ensures) (kept.closed_sound c.args.s c.requires.1)

pub returns-then-g : goal.returns-then-g
unfolding popped
returns-then-g c = no (closed c.args.s).beyond _ _ (ap (λ (g : Frame). g.beyond) c.closed-c.ensures) c.if-c.false
    (yes (finished (closed c.args.s)).beyond _ _ (ap (λ (g : Frame). g.beyond) (c.finished-g.ensures ∙ ap finished c.closed-c.ensures))
    c.if-g.true (c.finished-g.ensures ∙ ap finished c.closed-c.ensures))

pub entered-requires : goal.entered-requires
entered-requires c = (c.requires.0, subst SoundFrame (sym (c.finished-g.ensures ∙ ap finished c.closed-c.ensures)) (kept.finished_sound (closed c.args.s) (kept.closed_sound c.args.s c.requires.1)))

pub returns : goal.returns
unfolding popped
returns c = no (closed c.args.s).beyond _ _ (ap (λ (g : Frame). g.beyond) c.closed-c.ensures) c.if-c.false
    (no (finished (closed c.args.s)).beyond _ _ (ap (λ (g : Frame). g.beyond)
    (c.finished-g.ensures ∙ ap finished c.closed-c.ensures)) c.if-g.false
    (c.entered.ensures ∙ ap (entered c.args.o) (c.finished-g.ensures ∙ ap finished c.closed-c.ensures)))
