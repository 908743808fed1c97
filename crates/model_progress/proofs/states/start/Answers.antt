-- `model_progress::states::start` meets its contract.
use Rattle.model_progress.proofs.StateAfter.{stands_start}
use Rattle.model_progress.proofs.states.start.Goals as goal

pub returns : goal.returns
returns c = stands_start c.none.result c.none.ensures
