-- `model_names::names` meets its contract.
use mathlib.Core.Path.{sym, ap, ◌∙◌}
use lib.Dec.{eqb}
use Rattle.theory.specs.Command.{whole}
use Rattle.theory.specs.Name.{names_action}
use Rattle.model_command.specs.CursorReadings.{command_of, command_of_in}
use Rattle.model_command.specs.declared.Command.{Command as CodeCommand}
use Rattle.model_names.proofs.NameWalk.{names_other}
use Rattle.model_names.proofs.names.Goals as goal

pub returns-in-Name : goal.returns-in-Name
unfolding names_action command_of_in
returns-in-Name c = λ B at. ap (eqb c.args.action) c.from.ensures ∙ ap (λ (d : CodeCommand). names_action c.args.action (whole (command_of B at d))) (sym c.in-Name.is)

pub returns-in_default : goal.returns-in_default
returns-in_default c = λ B at. names_other c.args.action B at c.args.c c.in_default.not-Name
