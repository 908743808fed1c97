-- `import_frames::on_sign` meets its contract: before a leading sign stands nothing; else the total goes on where all its numbers fit, and is over where not.
use mathlib.Core.Path.{ap, ◌∙◌}
use mathlib.Core.List.{List}
use lib.IntN.{ℤ}
use Rattle.import_numbers.specs.Numbers.{all_within}
use Rattle.import_frames.specs.Frames as f
use Rattle.import_frames.specs.Frames.{factor, total, on_sign, less}
use Rattle.import_frames.proofs.Laws.{yes, no, hit, miss}
use Rattle.import_frames.proofs.on_sign.Goals as goal

pub returns-then-s-eq-START : goal.returns-then-s-eq-START
unfolding on_sign
returns-then-s-eq-START c = hit c.args.s.mode 0 _ _ c.if-s-eq-START.true c.summed.ensures

pub returns-then-all_fit : goal.returns-then-all_fit
unfolding on_sign
returns-then-all_fit c = miss c.args.s.mode 0 _ _ c.if-s-eq-START.false (yes (all_within (total c.args.s)) _ _
    (c.all_fit.ensures ∙ ap all_within c.total-t.ensures) c.if-all_fit.true
    (c.summed-then-all_fit.ensures ∙ ap (λ (t : List ℤ). f.summed c.args.s t c.args.minus) c.total-t.ensures))

pub returns : goal.returns
unfolding on_sign
returns c = miss c.args.s.mode 0 _ _ c.if-s-eq-START.false (no (all_within (total c.args.s)) _ _ (c.all_fit.ensures ∙ ap all_within c.total-t.ensures) c.if-all_fit.false c.over.ensures)
