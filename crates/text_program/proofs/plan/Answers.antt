-- `text_program::plan` meets its contract.
use mathlib.Core.Path.{sym, ◌∙◌}
use native.Mathlib.Omega.{arith}
use Rattle.text_input.proofs.Inputs.{longer, no_longer}
use Rattle.text_program.proofs.plan.Goals as goal

pub returns-then-too_long : goal.returns-then-too_long
returns-then-too_long c = let r = c.refusal.ensures in
    (omega (arith, r.0, c.requires), longer c.args.model.now c.args.horizon (sym c.too_long.ensures ∙ c.if-too_long.true) r.1)

pub returns : goal.returns
returns c = let r = c.tabled.ensures in
    (r.0, no_longer c.args.model.now c.args.horizon (sym c.too_long.ensures ∙ c.if-too_long.false) r.1)
