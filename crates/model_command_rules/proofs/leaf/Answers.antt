-- `model_command_rules::leaf` meets its contract.
use mathlib.Core.Path.{ap, ◌∙◌}
use Prim.Native.Nat.{ℕ}
use lib.Dec.{ltb}
use Rattle.model_form.specs.Forms.{form_of}
use Rattle.theory.specs.Command.{linear_in}
use Rattle.model_command_rules.proofs.RuleTests.{later_leaf}
use Rattle.model_command_rules.proofs.leaf.Goals as goal

pub returns : goal.returns
returns c = λ F p st. later_leaf st (linear_in (form_of c.args.form) c.args.model.now c.args.from) c.ordered.ensures (ap (λ (n : ℕ). ltb n c.used.result) c.from-levels.ensures ∙ c.used.ensures c.args.s.site.levels)
