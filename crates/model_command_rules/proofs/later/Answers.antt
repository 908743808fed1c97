-- `model_command_rules::later` meets its contract: each case is the contract of the call that judges it (`known_command`), and a site here breaks the
-- order; a command that was read has all its bytes in the model, so the offsets lie there.
use Rattle.model_form.specs.Forms.{form_of}
use Rattle.theory.specs.Widths.{name_bytes}
use Rattle.theory.specs.Form.{behind_action}
use Rattle.theory.specs.Valid.{all}
use mathlib.Core.Path.{refl, ap, ◌∙◌}
use Prim.Native.Nat.{ℕ, ◌+◌}
use native.Mathlib.Omega.{arith}
use lib.ListN.{take, drop}
use Rattle.theory.specs.Verdict.{printable, first_broken, later_rules}
use Rattle.model_command.specs.CursorReadings.{command_of_in}
use Rattle.model_command.proofs.Forward.{whole_bytes}
use Rattle.model_progress.proofs.StateAfter.{known_command, leaf_there, test_there}
use Rattle.model_command_rules.proofs.later.Goals as goal

pub overflow_add-at : goal.overflow_add-at
overflow_add-at c = let h = leaf_there (form_of c.args.form) c.args.model.now c.args.at c.in-Leaf.is c.requires in omega arith

pub leaf-requires : goal.leaf-requires
leaf-requires c = let h = leaf_there (form_of c.args.form) c.args.model.now c.args.at c.in-Leaf.is c.requires in omega arith

pub overflow_add-at-in-Test : goal.overflow_add-at-in-Test
overflow_add-at-in-Test c = let h = test_there (form_of c.args.form) c.args.model.now c.args.at c.in-Test.is c.requires in omega arith

pub test-requires : goal.test-requires
test-requires c = let h = test_there (form_of c.args.form) c.args.model.now c.args.at c.in-Test.is c.requires in omega arith

pub overflow_add-at-in-Name : goal.overflow_add-at-in-Name
overflow_add-at-in-Name c = let h = (whole_bytes (form_of c.args.form) c.args.model.now c.args.at _ c.requires).0.starts in omega (arith, c.behind_action.ensures.1)

pub returns-in-Site : goal.returns-in-Site
unfolding command_of_in later_rules first_broken
returns-in-Site c = known_command (form_of c.args.form) c.args.s c.args.flags.now c.args.model.now c.args.at _ c.in-Site.is (λ p st. refl)

pub returns-in-Leaf : goal.returns-in-Leaf
unfolding command_of_in
returns-in-Leaf c = known_command (form_of c.args.form) c.args.s c.args.flags.now c.args.model.now c.args.at _ c.in-Leaf.is (c.leaf.ensures c.args.flags.now)

pub returns-in-Condition : goal.returns-in-Condition
unfolding command_of_in
returns-in-Condition c = known_command (form_of c.args.form) c.args.s c.args.flags.now c.args.model.now c.args.at _ c.in-Condition.is (c.condition.ensures c.args.flags.now)

pub returns-in-Test : goal.returns-in-Test
unfolding command_of_in
returns-in-Test c = known_command (form_of c.args.form) c.args.s c.args.flags.now c.args.model.now c.args.at _ c.in-Test.is (c.test.ensures c.args.flags.now)

pub returns-in-Forbidden : goal.returns-in-Forbidden
unfolding command_of_in
returns-in-Forbidden c = known_command (form_of c.args.form) c.args.s c.args.flags.now c.args.model.now c.args.at _ c.in-Forbidden.is (c.forbidden.ensures c.args.flags.now)

pub returns-in-Give : goal.returns-in-Give
unfolding command_of_in
returns-in-Give c = known_command (form_of c.args.form) c.args.s c.args.flags.now c.args.model.now c.args.at _ c.in-Give.is c.give.ensures

pub returns-in-Name : goal.returns-in-Name
unfolding command_of_in
returns-in-Name c = known_command (form_of c.args.form) c.args.s c.args.flags.now c.args.model.now c.args.at _ c.in-Name.is
    (c.name.ensures (take name_bytes (drop (c.args.at + behind_action (form_of c.args.form)) c.args.model.now))
    (c.text.ensures ∙ ap (λ (k : ℕ). all printable (take name_bytes (drop (c.args.at + k) c.args.model.now)))
    c.behind_action.ensures.0))

pub returns-in-End : goal.returns-in-End
unfolding command_of_in
returns-in-End c = known_command (form_of c.args.form) c.args.s c.args.flags.now c.args.model.now c.args.at _ c.in-End.is c.end.ensures
