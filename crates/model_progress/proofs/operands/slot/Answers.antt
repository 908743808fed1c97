-- `model_progress::operands::slot` meets its contract.
use mathlib.Core.Path.{sym, ap₂, ◌∙◌}
use Rattle.theory.specs.Valid.{among}
use Rattle.theory.specs.Verdict.{of_site}
use Rattle.model_progress.proofs.operands.slot.Goals as goal

pub returns-then-end_worth : goal.returns-then-end_worth
unfolding of_site
returns-then-end_worth c = rw (sym c.end_worth.ensures ∙ c.if-end_worth.true) c.if-end_worth.true

pub returns-then-among : goal.returns-then-among
unfolding of_site
returns-then-among c = let a = sym (ap₂ among c.from.ensures c.from-else-end_worth.ensures) ∙ sym c.among.ensures ∙ c.if-among.true in
    rw (sym c.end_worth.ensures ∙ c.if-end_worth.false, a) c.index.ensures

pub returns-else-among : goal.returns-else-among
unfolding of_site
returns-else-among c = let a = sym (ap₂ among c.from.ensures c.from-else-end_worth.ensures) ∙ sym c.among.ensures ∙ c.if-among.false in
    rw (sym c.end_worth.ensures ∙ c.if-end_worth.false, a) c.if-among.false
