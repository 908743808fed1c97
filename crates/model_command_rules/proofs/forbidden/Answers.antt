-- `model_command_rules::forbidden` meets its contract.
use Rattle.model_command_rules.proofs.RuleTests.{later_forbidden}
use Rattle.model_command_rules.proofs.forbidden.Goals as goal

pub returns : goal.returns
returns c = λ F p st. later_forbidden st c.ordered.ensures
