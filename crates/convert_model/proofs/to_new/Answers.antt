-- `convert_model::to_new` meets its contract.
use Rattle.model_form.specs.Forms.{form_of}
use Rattle.convert_model.proofs.to_new.Goals as goal

pub returns : goal.returns
unfolding form_of
returns c = c.convert.ensures
