-- `model_progress::operands::end_worth` meets its contract.
use mathlib.Core.Path.{◌∙◌}
use mathlib.Core.Logic.{inl, inr}
use borrow.Author.Tests.{eq-eqb, ne_eqb}
use Rattle.theory.specs.Verdict.{same_slot}
use Rattle.model_progress.proofs.operands.end_worth.Goals.{then-command-eq35, else-command-eq35}
use Rattle.model_progress.proofs.operands.end_worth.Goals as goal

pub returns-then-a-eq0 : goal.returns-then-a-eq0
unfolding same_slot
returns-then-a-eq0 c = simp (eq-eqb _ _ c.if-a-eq0.true.0, eq-eqb _ _ c.if-a-eq0.true.1)

pub returns-else-a-eq0 : goal.returns-else-a-eq0
unfolding same_slot
returns-else-a-eq0 c = elim c.if-a-eq0.either [
  | inl h ↦ elim c.if-command-eq35.branch [ then-command-eq35 w ↦ w.t-5-is ∙ simp (eq-eqb _ _ h.0, ne_eqb _ _ h.1) | else-command-eq35 w ↦ absurd (w.if-command-eq35.false h.0) ]
  | inr h ↦ elim c.if-command-eq35.branch [ then-command-eq35 w ↦ absurd (h w.if-command-eq35.true) | else-command-eq35 w ↦ w.t-5-is ∙ simp (ne_eqb _ _ h) ]
]
