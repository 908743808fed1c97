-- `model_command_rules::first` meets its contract.
use Rattle.model_form.specs.Forms.{form_of}
use mathlib.Core.Path.{sym, ap, ◌∙◌}
use Rattle.theory.specs.Verdict.{first_broken, first_rules}
use Rattle.model_command.specs.declared.Command.{Command as CodeCommand}
use Rattle.model_command.specs.CursorReadings.{command_of_in}
use Rattle.model_progress.proofs.StateAfter.{not_first}
use Rattle.model_command_rules.proofs.first.Goals as goal

pub returns-in-Site : goal.returns-in-Site
unfolding command_of_in first_rules
returns-in-Site c = λ B at. c.site.ensures ∙ ap (λ (d : CodeCommand). first_broken (first_rules (form_of c.args.form) (command_of_in (form_of c.args.form) B at d))) (sym c.in-Site.is)

pub returns-in_default : goal.returns-in_default
returns-in_default c = λ B at. not_first (form_of c.args.form) B at c.args.c c.in_default.not-Site
