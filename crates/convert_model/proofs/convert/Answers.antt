-- `convert_model::convert` meets its contract: the refusals come in the order of `conversion`, with the buffer as it was; a model that is not refused
-- is within its form's bytes (`own_bytes`), and one that fits the buffer is put whole (`call_0`).
use mathlib.Core.Path.{◌∙◌}
use native.Mathlib.Omega.{arith}
use Rattle.model_form.specs.Forms.{form_of}
use Rattle.convert_model.proofs.Call.{own_bytes, form_most, refused_as, call_refused, call_20, call_17, call_0}
use Rattle.convert_model.proofs.convert.Goals as goal

pub returns-then-v-ne0 : goal.returns-then-v-ne0
returns-then-v-ne0 c = refused_as c.refused.result _ _ c.args.buffer.now c.refused.ensures ∙ call_refused (form_of c.args.from) (form_of c.args.to)
    c.args.model.now c.args.buffer.now c.own-v.result c.own-v.ensures c.if-v-ne0.true

pub model_len-size-requires : goal.model_len-size-requires
model_len-size-requires c = omega (arith, own_bytes (form_of c.args.from) c.args.model.now c.own-v.result c.own-v.ensures c.if-v-ne0.false, form_most (form_of c.args.from))

pub returns-then-unfit : goal.returns-then-unfit
returns-then-unfit c = refused_as c.refused-then-unfit.result _ _ c.args.buffer.now c.refused-then-unfit.ensures ∙ call_20 (form_of c.args.from) (form_of c.args.to)
    c.args.model.now c.args.buffer.now c.own-v.result c.own-v.ensures c.if-v-ne0.false c.model_len-size.result
    c.model_len-size.ensures c.unfit.result c.unfit.ensures c.if-unfit.true

pub returns-then-buffer-size : goal.returns-then-buffer-size
returns-then-buffer-size c = refused_as c.refused-then-buffer-size.result _ _ c.args.buffer.now c.refused-then-buffer-size.ensures ∙ call_17 (form_of c.args.from) (form_of c.args.to)
    c.args.model.now c.args.buffer.now c.own-v.result c.own-v.ensures c.if-v-ne0.false c.model_len-size.result
    c.model_len-size.ensures c.unfit.result c.unfit.ensures c.if-unfit.false c.if-buffer-size.true

pub put_model-n-requires : goal.put_model-n-requires
put_model-n-requires c = (
  omega (arith, c.if-buffer-size.false, c.model_len-size.ensures),
  omega (
    arith,
    own_bytes (form_of c.args.from) c.args.model.now c.own-v.result c.own-v.ensures c.if-v-ne0.false,
    form_most
        (form_of c.args.from),
  ),
)

pub returns : goal.returns
returns c = call_0 (form_of c.args.from) (form_of c.args.to) c.args.model.now c.args.buffer.now c.own-v.result c.own-v.ensures
    c.if-v-ne0.false c.model_len-size.result c.model_len-size.ensures c.unfit.result c.unfit.ensures c.if-unfit.false
    c.if-buffer-size.false c.put_model-n.ensures
