-- `text_input::horizon` meets its contract.
use mathlib.Core.Path.{◌∙◌}
use Rattle.text_input.proofs.Inputs.{no_byte, first_byte}
use Rattle.text_input.proofs.horizon.Goals as goal

pub returns-in-Some : goal.returns-in-Some
returns-in-Some c = c.from.ensures ∙ first_byte c.args.input.now c.in-Some.ensures.value

pub returns-in-None : goal.returns-in-None
returns-in-None c = no_byte c.args.input.now c.in-None.ensures.value
