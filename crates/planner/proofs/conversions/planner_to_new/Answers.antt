-- `planner::conversions::planner_to_new` meets its contract.
use Rattle.planner.proofs.conversions.planner_to_new.Goals as goal

pub returns : goal.returns
returns c = c.to_new.ensures
