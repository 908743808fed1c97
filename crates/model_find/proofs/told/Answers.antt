-- `model_find::told` meets its contract.
use mathlib.Core.Path.{sym, ap, ◌∙◌}
use Rattle.model_find.specs.Tally.{told}
use Rattle.model_find.proofs.told.Goals as goal

pub returns-in-Nobody : goal.returns-in-Nobody
unfolding told
returns-in-Nobody c = c.refused.ensures ∙ sym (ap told c.in-Nobody.is)

pub returns-in-One : goal.returns-in-One
unfolding told
returns-in-One c = sym (ap told c.in-One.is)

pub returns-in-Several : goal.returns-in-Several
unfolding told
returns-in-Several c = c.refused-in-Several.ensures ∙ sym (ap told c.in-Several.is)
