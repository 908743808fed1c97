-- `rule_tests::stands_at` meets its contract: it says so of no next step's condition and of no leaf.
use mathlib.Core.Path.{◌≡◌, refl, sym, ◌∙◌}
use mathlib.Core.Bool.{Bool, true, false, not}
use Rattle.rule_tests.proofs.Comparisons.{leaf_read}
use Rattle.rule_tests.proofs.stands_at.Goals as goal

no_leaf : (b : Bool) → not b ≡ true → b ≡ false
no_leaf true e = sym e
no_leaf false e = refl

pub returns-then-op-ne-CHOOSE_LATER : goal.returns-then-op-ne-CHOOSE_LATER
returns-then-op-ne-CHOOSE_LATER c = λ e. (c.if-op-ne-CHOOSE_LATER.true, leaf_read c.args.nodes.now c.args.p c.is_leaf-arg-1.given c.is_leaf.ensures ∙ no_leaf c.is_leaf.result e)
