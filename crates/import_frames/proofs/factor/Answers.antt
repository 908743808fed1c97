-- `import_frames::factor` meets its contract: the product is the term where all its numbers fit, and over where not.
use mathlib.Core.Path.{ap, ◌∙◌}
use mathlib.Core.List.{List}
use lib.IntN.{ℤ}
use Rattle.import_numbers.specs.Numbers.{all_within}
use Rattle.import_frames.specs.Frames as f
use Rattle.import_frames.specs.Frames.{factor, less}
use Rattle.import_frames.proofs.Laws.{yes, no}
use Rattle.import_frames.proofs.factor.Goals as goal

pub returns-then-all_fit : goal.returns-then-all_fit
unfolding factor
returns-then-all_fit c = yes (all_within _) _ _ (c.all_fit.ensures ∙ ap all_within c.product-y.ensures) c.if-all_fit.true
    (c.termed.ensures ∙ ap (λ (t : List ℤ). f.termed c.args.s t) c.product-y.ensures)

pub returns : goal.returns
unfolding factor
returns c = no (all_within _) _ _ (c.all_fit.ensures ∙ ap all_within c.product-y.ensures) c.if-all_fit.false c.over.ensures
