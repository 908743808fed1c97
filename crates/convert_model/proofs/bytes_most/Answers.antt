-- `convert_model::bytes_most` meets its contract.
use mathlib.Core.Path.{sym, ap}
use native.Mathlib.Omega.{arith}
use Rattle.theory.specs.Form.{bytes_in}
use Rattle.model_form.specs.declared.Form.{Form as CodeForm}
use Rattle.model_form.specs.Forms.{form_of}
use Rattle.convert_model.proofs.bytes_most.Goals as goal

pub returns-in-Old : goal.returns-in-Old
unfolding form_of
returns-in-Old c = (ap (λ (f : CodeForm). bytes_in (form_of f)) (sym c.in-Old.is), omega arith)

pub returns-in-New : goal.returns-in-New
unfolding form_of
returns-in-New c = (ap (λ (f : CodeForm). bytes_in (form_of f)) (sym c.in-New.is), omega arith)
