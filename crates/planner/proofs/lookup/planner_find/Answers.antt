-- `planner::lookup::planner_find` meets its contract.
use Rattle.c_name_answers.proofs.Looked.{find_given}
use Rattle.planner.proofs.lookup.planner_find.Goals as goal

pub returns : goal.returns
returns c = find_given c.args.out.now c.found.ensures c.find.ensures
