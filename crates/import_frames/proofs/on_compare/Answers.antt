-- `import_frames::on_compare` meets its contract: the total is the left side where all its numbers fit, and over where not.
use mathlib.Core.Path.{ap, ◌∙◌}
use mathlib.Core.List.{List}
use lib.IntN.{ℤ}
use Rattle.import_numbers.specs.Numbers.{all_within}
use Rattle.import_frames.specs.Frames as f
use Rattle.import_frames.specs.Frames.{factor, total, on_compare, less}
use Rattle.import_frames.proofs.Laws.{yes, no}
use Rattle.import_frames.proofs.on_compare.Goals as goal

pub returns-then-all_fit : goal.returns-then-all_fit
unfolding on_compare
returns-then-all_fit c = yes (all_within (total c.args.s)) _ _ (c.all_fit.ensures ∙ ap all_within c.total-t.ensures) c.if-all_fit.true
    (c.sided.ensures ∙ ap (λ (t : List ℤ). f.sided t c.args.compared) c.total-t.ensures)

pub returns : goal.returns
unfolding on_compare
returns c = no (all_within (total c.args.s)) _ _ (c.all_fit.ensures ∙ ap all_within c.total-t.ensures) c.if-all_fit.false c.over.ensures
