-- `planner::conversions::planner_to_old` meets its contract.
use Rattle.planner.proofs.conversions.planner_to_old.Goals as goal

pub returns : goal.returns
returns c = c.to_old.ensures
