-- `model_progress::states::after` meets its contract: one law for each case of the command (`after_site` to `after_end`): where no rule is broken the
-- stack has room for a push and two parts for a choice, so the new state stands for the specification's.
use Rattle.model_form.specs.Forms.{form_of}
use mathlib.Core.Path.{refl, ap, ◌∙◌}
use Prim.Native.Nat.{ℕ}
use lib.Dec.{ltb}
use Rattle.theory.specs.Verdict.{joined}
use Rattle.model_facts.specs.Seen.{seen}
use native.Mathlib.Omega.{arith}
use Rattle.model_command.specs.CursorReadings.{command_of_in}
use Rattle.model_progress.specs.GivenFlags.{noted}
use Rattle.model_progress.proofs.StateAfter.{by_command, leaf_there, after_site, after_leaf, after_condition, after_test, after_forbidden, after_give, after_name, after_end}
use Rattle.model_progress.proofs.states.after.Goals as goal

pub overflow_add-at : goal.overflow_add-at
overflow_add-at c = let h = leaf_there (form_of c.args.form) c.args.model.now c.args.at c.in-Leaf.is c.requires in omega arith

pub weight-weight-requires : goal.weight-weight-requires
weight-weight-requires c = let h = leaf_there (form_of c.args.form) c.args.model.now c.args.at c.in-Leaf.is c.requires in omega arith

pub returns-in-Site : goal.returns-in-Site
unfolding command_of_in noted
returns-in-Site c = by_command (form_of c.args.form) c.args.model.now c.args.at c.args.s c.in-Site.is refl
    (λ F p st u. after_site (form_of c.args.form) st _ _ _ _ c.begun.result c.begun.ensures.0 c.begun.ensures.1.0 c.begun.ensures.1.1 u)

pub returns-in-Leaf : goal.returns-in-Leaf
unfolding command_of_in noted
returns-in-Leaf c = by_command (form_of c.args.form) c.args.model.now c.args.at c.args.s c.in-Leaf.is c.with_seen.ensures
    (λ F p st u. after_leaf (form_of c.args.form) st _ c.weight-weight.result c.pushed.result c.weight-weight.ensures
    c.pushed.ensures u)

pub returns-in-Condition : goal.returns-in-Condition
unfolding command_of_in noted
returns-in-Condition c = by_command (form_of c.args.form) c.args.model.now c.args.at c.args.s c.in-Condition.is c.with_seen-in-Condition.ensures
    (λ F p st u. after_condition (form_of c.args.form) st _ c.joined.result
    (λ h i. c.joined.ensures h i ∙ ap (λ (n : ℕ). joined (ltb 4 n) (seen c.args.s.seen)) c.from.ensures) u)

pub returns-in-Test : goal.returns-in-Test
unfolding command_of_in noted
returns-in-Test c = by_command (form_of c.args.form) c.args.model.now c.args.at c.args.s c.in-Test.is
    c.with_seen-in-Test.ensures (λ F p st u. after_test (form_of c.args.form) st _ c.joined-in-Test.result c.joined-in-Test.ensures u)

pub returns-in-Forbidden : goal.returns-in-Forbidden
unfolding command_of_in noted
returns-in-Forbidden c = by_command (form_of c.args.form) c.args.model.now c.args.at c.args.s c.in-Forbidden.is
    c.with_seen-in-Forbidden.ensures (λ F p st u. after_forbidden (form_of c.args.form) st c.pushed-in-Forbidden.result c.pushed-in-Forbidden.ensures u)

pub returns-in-Give : goal.returns-in-Give
unfolding command_of_in noted
returns-in-Give c = by_command (form_of c.args.form) c.args.model.now c.args.at c.args.s c.in-Give.is
    c.with_seen-in-Give.ensures (λ F p st u. after_give (form_of c.args.form) st _ c.popped.result c.popped.ensures.1.1 u)

pub returns-in-Name : goal.returns-in-Name
unfolding command_of_in noted
returns-in-Name c = by_command (form_of c.args.form) c.args.model.now c.args.at c.args.s c.in-Name.is refl (λ F p st u. after_name (form_of c.args.form) st _ _ u)

pub returns-in-End : goal.returns-in-End
unfolding command_of_in noted
returns-in-End c = by_command (form_of c.args.form) c.args.model.now c.args.at c.args.s c.in-End.is refl (λ F p st u. after_end st)
