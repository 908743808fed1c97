-- `check_rule_steps::runs::ready` meets its contract: a table of zero work words and no node is held (`empty`); each test before gives one of its bounds.
use Rattle.std.proofs.Common.{rules}
use Rattle.check_rule_steps.proofs.Steps.{empty}
use Rattle.check_rule_steps.proofs.runs.ready.Goals as goal

pub returns : goal.returns
returns c = λ e. empty _ _ _ (search rules) (search rules) (search rules) (search rules) (c.all_zero.ensures e)
