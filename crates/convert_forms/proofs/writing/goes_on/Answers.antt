-- `convert_forms::writing::goes_on` meets its contract.
use mathlib.Core.Path.{ap, ◌∙◌}
use mathlib.Core.Bool.{not}
use Rattle.convert_forms.proofs.ReadingSteps.{ends_here, another, failed}
use Rattle.convert_forms.proofs.writing.goes_on.Goals.{in-End, in_default}
use Rattle.convert_forms.proofs.writing.goes_on.Goals as goal

pub returns-after-matches : goal.returns-after-matches
returns-after-matches c = elim c.match-matches.branch [
  | in-End w ↦ ap not w.matches-is ∙ ends_here c.args.read _ c.in-Ok.is w.in-End.is
  | in_default w ↦ ap not w.matches-is ∙ another c.args.read _ c.in-Ok.is w.in_default.not-End
]

pub returns-in-Err : goal.returns-in-Err
returns-in-Err c = failed c.args.read _ c.in-Err.is
