-- `load_model::ended_by` meets its contract.
use mathlib.Core.Path.{ap, ◌∙◌, sym}
use mathlib.Core.Bool.{Bool}
use borrow.Author.Tests.{eq-eqb, ne_eqb}
use Rattle.theory.specs.Verdict.{or}
use Rattle.model_command.specs.CursorReadings.{command_of_in, command_of}
use Rattle.model_command.specs.declared.Command.{Command as CodeCommand}
use Rattle.load_model.specs.ModelRoots.{ended_by}
use Rattle.load_model.proofs.Places.{other_command}
use Rattle.load_model.proofs.ended_by.Goals as goal

pub returns-then-command-eq-END_WORTH : goal.returns-then-command-eq-END_WORTH
unfolding ended_by command_of_in
returns-then-command-eq-END_WORTH c = λ B at. sym (ap (λ (d : CodeCommand). ended_by c.args.ended (command_of B at d)) c.in-Give.is ∙ ap (λ (b : Bool). or b c.args.ended) (eq-eqb _ _ c.if-command-eq-END_WORTH.true))

pub returns-else-command-eq-END_WORTH : goal.returns-else-command-eq-END_WORTH
unfolding ended_by command_of_in
returns-else-command-eq-END_WORTH c = λ B at. sym (ap (λ (d : CodeCommand). ended_by c.args.ended (command_of B at d)) c.in-Give.is ∙ ap (λ (b : Bool). or b c.args.ended) (ne_eqb _ _ c.if-command-eq-END_WORTH.false))

pub returns-in_default : goal.returns-in_default
returns-in_default c = λ B at. (other_command B at c.args.c c.in_default.not-Give).1 c.args.ended
