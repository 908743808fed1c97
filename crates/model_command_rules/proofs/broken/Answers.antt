-- `model_command_rules::broken` meets its contract.
use Rattle.model_form.specs.Forms.{form_of}
use mathlib.Core.Path.{◌∙◌}
use Rattle.model_command_rules.proofs.RuleTests.{begun_rules, first_rules_of}
use Rattle.model_command_rules.proofs.broken.Goals as goal

pub returns-then-s : goal.returns-then-s
returns-then-s c = λ p st. c.later.ensures p st ∙ begun_rules st (form_of c.args.form) _ c.if-s.true

pub returns-else-s : goal.returns-else-s
returns-else-s c = λ p st. c.first.ensures c.args.model.now c.args.at ∙ first_rules_of st (form_of c.args.form) _ c.if-s.false
