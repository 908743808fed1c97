-- `convert_model::unfit` meets its contract.
use Rattle.model_form.specs.Forms.{form_of}
use Rattle.convert_model.proofs.ForbiddenSearch.{unfit_large, unfit_by, unfit_not}
use borrow.Author.Tests.{ne_eqb}
use mathlib.Core.Path.{◌∙◌}
use Rattle.convert_model.proofs.unfit.Goals as goal

pub returns-then-too_large : goal.returns-then-too_large
returns-then-too_large c = unfit_large (form_of c.args.from) (form_of c.args.to) c.args.model.now c.args.size c.too_large.result c.too_large.ensures c.if-too_large.true

pub returns-then-forbidden_bytes-eq0 : goal.returns-then-forbidden_bytes-eq0
returns-then-forbidden_bytes-eq0 c = unfit_by (form_of c.args.from) (form_of c.args.to) c.args.model.now c.args.size c.too_large.result
    c.too_large.ensures c.if-too_large.false c.forbidden_bytes.result c.forbidden_bytes.ensures.0
    c.if-forbidden_bytes-eq0.true c.forbids.result c.forbids.ensures

pub returns-else-forbidden_bytes-eq0 : goal.returns-else-forbidden_bytes-eq0
returns-else-forbidden_bytes-eq0 c = ne_eqb _ _ c.if-forbidden_bytes-eq0.false ∙ unfit_not (form_of c.args.from) (form_of c.args.to) c.args.model.now c.args.size c.too_large.result
    c.too_large.ensures c.if-too_large.false c.forbidden_bytes.result c.forbidden_bytes.ensures.0 c.if-forbidden_bytes-eq0.false
