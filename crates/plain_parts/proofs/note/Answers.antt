-- `plain_parts::note` meets its contract.
use mathlib.Core.Path.{sym, ap, ◌∙◌}
use Rattle.model_command.specs.declared.Command.{Command as CodeCommand}
use Rattle.model_command.specs.CursorReadings.{command_of, command_of_in}
use Rattle.plain_pass.specs.Parts.{noted}
use Rattle.plain_pass.proofs.Finds.{noted_other}
use Rattle.plain_parts.proofs.note.Goals as goal

pub returns-in-Give : goal.returns-in-Give
unfolding noted command_of_in
returns-in-Give c = λ B i. c.enter.ensures ∙ ap (λ (d : CodeCommand). noted (command_of B i d) c.args.begin c.args.parts.now) (sym c.in-Give.is)

pub returns-in_default : goal.returns-in_default
returns-in_default c = λ B i. noted_other B i c.args.c c.args.begin c.args.parts.now c.in_default.not-Give
