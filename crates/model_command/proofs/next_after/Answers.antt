-- `model_command::next_after` meets its contract.
use Rattle.model_form.specs.Forms.{form_of}
use Rattle.model_command.proofs.next_after.Goals as goal

pub returns : goal.returns
unfolding form_of
returns c = c.next_after_in.ensures
