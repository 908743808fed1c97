-- `import_look::comparison` meets its contract: `turned` swaps the sides of the difference; `compared` joins the two sums and the operator.
use mathlib.Core.Path.{sym, ◌∙◌}
use Rattle.import_look.proofs.Places.{if_yes, if_no}
use Rattle.import_look.proofs.Telling.{compared}
use Rattle.import_look.proofs.comparison.Goals as goal

pub returns-then-o : goal.returns-then-o
returns-then-o c = compared _ _ _ _ c.operator_at-o.result _ c.sum_at-a.ensures c.operator_at-o.ensures.0 c.sum_at-b.ensures
    (c.difference.ensures ∙ sym (if_yes c.operator_at-o.result.turned _ _ c.if-o.true))

pub returns : goal.returns
returns c = compared _ _ _ _ c.operator_at-o.result _ c.sum_at-a.ensures c.operator_at-o.ensures.0 c.sum_at-b.ensures
    (c.difference-2.ensures ∙ sym (if_no c.operator_at-o.result.turned _ _ c.if-o.false))
