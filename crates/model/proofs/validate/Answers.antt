-- `model::validate` meets its contract.
use Rattle.model_form.specs.Forms.{form_of}
use Rattle.model.proofs.validate.Goals as goal

pub returns : goal.returns
unfolding form_of
returns c = c.validate_in.ensures
