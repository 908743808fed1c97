-- `convert_model::to_old` meets its contract.
use Rattle.model_form.specs.Forms.{form_of}
use Rattle.convert_model.proofs.to_old.Goals as goal

pub returns : goal.returns
unfolding form_of
returns c = c.convert.ensures
