-- `load_command::step` meets its contract: known by its case, a command that is ready to be loaded is what its call requires (`ready_as`), and what
-- the call ensures is the step (`step_as`); a command that loads nothing leaves all as it is (`other_step`).
use native.Mathlib.Omega.{arith}
use Rattle.model_command.specs.CursorReadings.{command_of_in}
use Rattle.load_command.proofs.Steps.{leaf_there, leaf_read, leaf_loaded, condition_asks, test_asks, condition_step, test_step, forbidden_step, give_step, other_step, ready_as, step_as}
use Rattle.load_command.proofs.step.Goals as goal

pub overflow_add-at : goal.overflow_add-at
unfolding command_of_in
overflow_add-at c = let h = leaf_there (ready_as _ _ c.in-Leaf.is c.requires) in omega arith

pub linear_at-requires : goal.linear_at-requires
unfolding command_of_in
linear_at-requires c = let h = leaf_there (ready_as _ _ c.in-Leaf.is c.requires) in omega arith

pub leaf-requires : goal.leaf-requires
unfolding command_of_in
leaf-requires c = leaf_read (ready_as _ _ c.in-Leaf.is c.requires) c.linear_at.result c.linear_at.ensures

pub choice-requires : goal.choice-requires
unfolding command_of_in
choice-requires c = condition_asks _ (ready_as _ _ c.in-Condition.is c.requires)

pub choice-requires-in-Test : goal.choice-requires-in-Test
unfolding command_of_in
choice-requires-in-Test c = test_asks _ (ready_as _ _ c.in-Test.is c.requires)

pub forbidden-requires : goal.forbidden-requires
unfolding command_of_in
forbidden-requires c = (ready_as _ _ c.in-Forbidden.is c.requires).table.bare

pub returns-in-Leaf : goal.returns-in-Leaf
unfolding command_of_in
returns-in-Leaf c = step_as _ _ c.in-Leaf.is c.requires (λ y. leaf_loaded y c.linear_at.result c.linear_at.ensures c.leaf.ensures)

pub returns-in-Condition : goal.returns-in-Condition
unfolding command_of_in
returns-in-Condition c = step_as _ _ c.in-Condition.is c.requires (λ y. condition_step _ _ _ y c.choice.ensures)

pub returns-in-Test : goal.returns-in-Test
unfolding command_of_in
returns-in-Test c = step_as _ _ c.in-Test.is c.requires (λ y. test_step _ _ _ y c.choice-in-Test.ensures)

pub returns-in-Forbidden : goal.returns-in-Forbidden
unfolding command_of_in
returns-in-Forbidden c = step_as _ _ c.in-Forbidden.is c.requires (λ y. forbidden_step _ _ y c.forbidden.ensures)

pub returns-in-Give : goal.returns-in-Give
unfolding command_of_in
returns-in-Give c = step_as _ _ c.in-Give.is c.requires (λ y. give_step _ y c.taken.ensures)

pub returns-in_default : goal.returns-in_default
returns-in_default c = other_step c.args.c c.in_default.not-Leaf c.in_default.not-Condition c.in_default.not-Test c.in_default.not-Forbidden c.in_default.not-Give c.requires
