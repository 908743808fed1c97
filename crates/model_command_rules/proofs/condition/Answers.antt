-- `model_command_rules::condition` meets its contract.
use mathlib.Core.Path.{ap, ◌∙◌}
use mathlib.Core.Bool.{Bool, false, not}
use lib.Dec.{ltb}
use Rattle.theory.specs.Verdict.{first_broken}
use Rattle.model_progress.specs.GivenFlags.{in_order}
use Rattle.model_command_rules.proofs.RuleTests.{later_condition}
use Rattle.model_command_rules.proofs.condition.Goals as goal

pub returns : goal.returns
returns c = λ F p st. c.ordered.ensures ∙ ap (λ (o : Bool). first_broken (in_order (not o) (ltb c.args.s.seen.len 2) false false)) c.condition.ensures ∙ later_condition st c.args.k
