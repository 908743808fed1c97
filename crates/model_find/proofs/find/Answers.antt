-- `model_find::find` meets its contract.
use mathlib.Core.Path.{◌∙◌}
use Rattle.model_find.proofs.Call.{front_length, find_refused, find_empty, find_met}
use Rattle.model_find.proofs.find.Goals as goal

pub returns-then-v-ne0 : goal.returns-then-v-ne0
returns-then-v-ne0 c = c.refused.ensures ∙ find_refused c.args.model.now c.args.name.now c.early-v.result c.early-v.ensures c.if-v-ne0.true

pub returns-then-size-lt-NAME_LEAST : goal.returns-then-size-lt-NAME_LEAST
returns-then-size-lt-NAME_LEAST c = c.refused-then-size-lt-NAME_LEAST.ensures ∙ find_empty c.args.model.now c.args.name.now c.early-v.result c.early-v.ensures c.if-v-ne0.false
    c.trimmed_len-size.result c.trimmed_len-size.ensures.1 c.if-size-lt-NAME_LEAST.true

pub slice_bounds-bearers_of-end : goal.slice_bounds-bearers_of-end
slice_bounds-bearers_of-end c = front_length c.args.name.now c.trimmed_len-size.result c.trimmed_len-size.ensures.0

pub returns : goal.returns
returns c = c.told.ensures ∙ find_met c.args.model.now c.args.name.now c.early-v.result c.early-v.ensures c.if-v-ne0.false
    c.trimmed_len-size.result c.trimmed_len-size.ensures.1 c.if-size-lt-NAME_LEAST.false c.bearers_of.ensures
