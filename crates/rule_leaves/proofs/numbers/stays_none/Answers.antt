use mathlib.Core.Path.{◌∙◌, ap}
use mathlib.Core.Bool.{not}
use borrow.Author.Tests.{eq-eqb}
use Rattle.rule_leaves.proofs.Sums.{zero_yes, zero_no, stays_zero, stays_other}
use Rattle.rule_leaves.proofs.numbers.stays_none.Goals as goal

pub returns-else-k-ne0 : goal.returns-else-k-ne0
returns-else-k-ne0 c = ap not (eq-eqb _ _ c.if-k-ne0.false) ∙ stays_zero c.args.k _ (zero_yes c.args.k c.ranges.k.sfits c.if-k-ne0.false)

pub returns-then-k-ne0 : goal.returns-then-k-ne0
returns-then-k-ne0 c = c.none_at.ensures ∙ stays_other c.args.k _ (zero_no c.args.k c.if-k-ne0.true)
