use Rattle.model_form.specs.Forms.{form_of}
use Rattle.c_convert.proofs.to_new.Goals as goal

pub returns : goal.returns
unfolding form_of
returns c = c.answered.ensures
