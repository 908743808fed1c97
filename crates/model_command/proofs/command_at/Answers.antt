-- `model_command::command_at` meets its contract.
use Rattle.model_form.specs.Forms.{form_of}
use Rattle.model_command.proofs.command_at.Goals as goal

pub returns : goal.returns
unfolding form_of
returns c = c.command_in.ensures
