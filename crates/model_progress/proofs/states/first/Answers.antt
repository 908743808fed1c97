-- `model_progress::states::first` meets its contract.
use Rattle.model_progress.proofs.StateAfter.{first_site, first_other}
use Rattle.model_progress.proofs.states.first.Goals as goal

pub returns-in-Site : goal.returns-in-Site
returns-in-Site c = λ form B at. first_site form B at _ c.begun.result c.in-Site.is c.begun.ensures.0 c.begun.ensures.1.0 c.begun.ensures.1.1

pub returns-in_default : goal.returns-in_default
returns-in_default c = λ form B at. first_other form B at _ _ c.in_default.not-Site
