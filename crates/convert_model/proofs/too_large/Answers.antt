-- `convert_model::too_large` meets its contract.
use mathlib.Core.Path.{◌∙◌}
use borrow.Author.Tests.{lt-ltb}
use Rattle.model_form.specs.Forms.{form_of}
use Rattle.convert_model.proofs.Call.{large_levels, large_actions, large_bytes}
use Rattle.convert_model.proofs.too_large.Goals as goal

pub returns-then-levels-from : goal.returns-then-levels-from
returns-then-levels-from c = large_levels (form_of c.args.from) (form_of c.args.to) c.args.model.now c.args.size c.levels.result
    c.from.result 0 0 c.levels.ensures.0 (c.from.ensures ∙ c.byte_at.ensures) c.if-levels-from.true

pub returns-then-actions-from : goal.returns-then-actions-from
returns-then-actions-from c = lt-ltb _ _ c.if-actions-from.true ∙ large_actions (form_of c.args.from) (form_of c.args.to) c.args.model.now c.args.size c.levels.result
    c.from.result c.actions.result c.from-2.result c.levels.ensures.0 (c.from.ensures ∙ c.byte_at.ensures)
    c.if-levels-from.false c.actions.ensures (c.from-2.ensures ∙ c.action_in.ensures) c.if-actions-from.true

pub returns-else-actions-from : goal.returns-else-actions-from
returns-else-actions-from c = large_bytes (form_of c.args.from) (form_of c.args.to) c.args.model.now c.args.size c.levels.result
    c.from.result c.actions.result c.from-2.result c.levels.ensures.0 (c.from.ensures ∙ c.byte_at.ensures)
    c.if-levels-from.false c.actions.ensures (c.from-2.ensures ∙ c.action_in.ensures) c.if-actions-from.false c.bytes_most.result
    c.bytes_most.ensures.0
