-- `import_frames::compared_with` meets its contract: the cases of `compared_with`: no comparison, or a difference whose numbers fit, or one over the limits.
use mathlib.Core.Path.{ap, ◌∙◌}
use Rattle.import_numbers.specs.Numbers.{all_within}
use Rattle.import_frames.specs.Frames.{less, compared_with}
use Rattle.import_frames.proofs.Laws.{yes, no, hit, miss}
use Rattle.import_frames.proofs.compared_with.Goals as goal

pub returns-then-s-eq0 : goal.returns-then-s-eq0
unfolding compared_with
returns-then-s-eq0 c = hit c.args.s.compared 0 _ _ c.if-s-eq0.true c.valued.ensures

pub returns-then-all_fit : goal.returns-then-all_fit
unfolding compared_with
returns-then-all_fit c = miss c.args.s.compared 0 _ _ c.if-s-eq0.false (yes (all_within (less c.args.s c.args.t)) _ _
    (c.all_fit.ensures ∙ ap all_within c.less.ensures) c.if-all_fit.true c.idle.ensures)

pub returns : goal.returns
unfolding compared_with
returns c = miss c.args.s.compared 0 _ _ c.if-s-eq0.false (no (all_within (less c.args.s c.args.t)) _ _
    (c.all_fit.ensures ∙ ap all_within c.less.ensures) c.if-all_fit.false c.over.ensures)
