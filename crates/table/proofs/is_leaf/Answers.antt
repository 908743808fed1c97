use mathlib.Core.Path.{sym, ◌∙◌}
use borrow.Author.Tests.{eq-eqb}
use Rattle.table.proofs.Leaf.{leaf_yes, leaf_no, none_told}
use Rattle.table.proofs.is_leaf.Goals as goal

pub returns-then-kind-eq-LEAF : goal.returns-then-kind-eq-LEAF
returns-then-kind-eq-LEAF c = eq-eqb _ _ c.if-kind-eq-LEAF.true ∙ sym (leaf_yes c.args.kind c.ranges.kind.sfits c.if-kind-eq-LEAF.true)

pub returns-else-kind-eq-LEAF : goal.returns-else-kind-eq-LEAF
returns-else-kind-eq-LEAF c = none_told c.args.kind c.ranges.kind.sfits ∙ leaf_no c.args.kind c.if-kind-eq-LEAF.false
