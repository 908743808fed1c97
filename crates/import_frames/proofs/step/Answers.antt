-- `import_frames::step` meets its contract: the cases of `step`: a name's byte, a digit, or a mark behind a closed number; closing keeps the frame sound.
use mathlib.Core.Path.{refl, sym, ap, ◌∙◌, subst}
use Rattle.import_frames.specs.declared.Frame.{Frame}
use Rattle.import_frames.specs.Frames as f
use Rattle.import_frames.specs.Frames.{SoundFrame, factor, closed, less, on_mark, on_digit, step}
use Rattle.import_frames.specs.Kept as kept
use Rattle.import_frames.proofs.Laws.{yes, no, hit, miss}
use Rattle.import_frames.proofs.step.Goals as goal

pub returns-then-k-eq34 : goal.returns-then-k-eq34
unfolding step
returns-then-k-eq34 c = hit c.args.s.mode 6 _ _ c.if-s-eq-NAME.true (hit c.args.k 34 _ _ c.if-k-eq34.true c.idle.ensures)

pub returns-then-s-eq-NAME : goal.returns-then-s-eq-NAME
unfolding step
returns-then-s-eq-NAME c = hit c.args.s.mode 6 _ _ c.if-s-eq-NAME.true (miss c.args.k 34 _ _ c.if-k-eq34.false (refl))

pub on_digit-requires : goal.on_digit-requires
on_digit-requires c = (c.requires, sym c.is_digit.ensures ∙ c.if-is_digit.true)

pub returns-then-is_digit : goal.returns-then-is_digit
unfolding step
returns-then-is_digit c = miss c.args.s.mode 6 _ _ c.if-s-eq-NAME.false (yes (f.digit c.args.k) _ _ c.is_digit.ensures c.if-is_digit.true c.on_digit.ensures)

pub returns-then-c : goal.returns-then-c
unfolding step
returns-then-c c = miss c.args.s.mode 6 _ _ c.if-s-eq-NAME.false (no (f.digit c.args.k) _ _ c.is_digit.ensures c.if-is_digit.false
    (yes (closed c.args.s).beyond _ _ (ap (λ (g : Frame). g.beyond) c.closed-c.ensures) c.if-c.true c.closed-c.ensures))

pub on_mark-requires : goal.on_mark-requires
on_mark-requires c = subst SoundFrame (sym c.closed-c.ensures) (kept.closed_sound c.args.s c.requires)

pub returns : goal.returns
unfolding step
returns c = miss c.args.s.mode 6 _ _ c.if-s-eq-NAME.false (no (f.digit c.args.k) _ _ c.is_digit.ensures c.if-is_digit.false
    (no (closed c.args.s).beyond _ _ (ap (λ (g : Frame). g.beyond) c.closed-c.ensures) c.if-c.false
    (c.on_mark.ensures ∙ ap (λ (g : Frame). on_mark g c.args.k) c.closed-c.ensures)))
