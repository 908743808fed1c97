-- `planner::importing::planner_import` meets its contract.
use Rattle.planner.proofs.importing.planner_import.Goals as goal

pub returns : goal.returns
returns c = c.import.ensures
