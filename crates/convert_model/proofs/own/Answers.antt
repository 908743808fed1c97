-- `convert_model::own` meets its contract.
use mathlib.Core.Path.{◌∙◌}
use native.Mathlib.Omega.{arith}
use Rattle.model_form.specs.Forms.{form_of}
use Rattle.convert_model.proofs.Call.{own_long, own_short}
use Rattle.convert_model.proofs.own.Goals as goal

pub returns-then-bytes_most-model : goal.returns-then-bytes_most-model
returns-then-bytes_most-model c = own_long (form_of c.args.form) c.args.model.now (omega (arith, c.if-bytes_most-model.true, c.bytes_most.ensures.0))

pub returns : goal.returns
returns c = c.validate_in.ensures ∙ own_short (form_of c.args.form) c.args.model.now (omega (arith, c.if-bytes_most-model.false, c.bytes_most.ensures.0))
