-- `plain_parts::size` meets its contract.
use Rattle.model_form.specs.Forms.{form_of}
use Rattle.plain_parts.proofs.size.Goals as goal

pub returns : goal.returns
unfolding form_of
returns c = c.size_in.ensures
