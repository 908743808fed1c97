-- `model_command::site_at` meets its contract.
use Rattle.model_command.specs.CursorReadings.{command_of_in}
use Rattle.model_command.proofs.site_at.Goals as goal

pub returns : goal.returns
unfolding command_of_in
returns c = simp (c.byte_at.ensures, c.byte_at-2.ensures, c.action_in.ensures, c.byte_at-3.ensures, c.action_bytes.ensures.0)
