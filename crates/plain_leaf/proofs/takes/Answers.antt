-- `plain_leaf::takes` meets its contract.
use mathlib.Core.Path.{sym, ap, ◌∙◌}
use Rattle.model_command.specs.declared.Command.{Command as CodeCommand}
use Rattle.model_command.specs.CursorReadings.{command_of, command_of_in}
use Rattle.theory.specs.Verdict.{same_slot}
use Rattle.plain_pass.specs.Pass.{slot_of}
use Rattle.plain_pass.specs.Pass.{takes as takes-slot}
use Rattle.plain_pass.proofs.Turns.{takes_other}
use Rattle.plain_leaf.proofs.takes.Goals as goal

pub returns-in-Give : goal.returns-in-Give
unfolding takes-slot same_slot command_of_in
returns-in-Give c = λ B i. c.eq.ensures ∙ ap (λ (d : CodeCommand). takes-slot (slot_of c.args.g) (command_of B i d)) (sym c.in-Give.is)

pub returns-in_default : goal.returns-in_default
returns-in_default c = λ B i. takes_other (slot_of c.args.g) B i c.args.c c.in_default.not-Give
