-- `plain_leaf::after` meets its contract: the cases of `stepped`: a push, a choice by a condition or a linear test, and a pop are their calls'
-- contracts, and other commands leave the stack; a test that was read has its linear in the model (`test_there`).
use mathlib.Core.Path.{refl, sym, ap, ◌∙◌}
use mathlib.Core.Bool.{Bool}
use mathlib.Core.Logic.{inl, inr}
use mathlib.Core.List.{List}
use Prim.Native.Nat.{ℕ}
use native.Mathlib.Omega.{arith}
use lib.IntN.{pos}
use lib.Signed.{le_z}
use Rattle.theory.specs.Diagram.{Linear}
use Rattle.model_command.specs.declared.Command.{Command as CodeCommand}
use Rattle.model_command.specs.CursorReadings.{command_of, command_of_in}
use Rattle.model_stack.specs.Held.{last_first}
use Rattle.plain_pass.specs.declared.Point.{Point}
use Rattle.plain_pass.specs.Pass.{chosen, stepped, numerator}
use Rattle.plain_pass.proofs.PassWords.{holds_as}
use Rattle.plain_pass.proofs.Turns.{test_there, whole_there}
use Rattle.plain_leaf.proofs.after.Goals as goal

pub overflow_cast-at : goal.overflow_cast-at
overflow_cast-at c = let h = whole_there c.args.model.now c.args.at _ c.requires.1 in omega (arith, c.requires.2)

pub overflow_add-at : goal.overflow_add-at
overflow_add-at c = let h = test_there c.args.model.now c.args.at c.in-Test.is c.requires.1 in omega arith

pub linear_at-requires : goal.linear_at-requires
linear_at-requires c = let h = test_there c.args.model.now c.args.at c.in-Test.is c.requires.1 in omega arith

pub test-requires : goal.test-requires
test-requires c = c.linear_at.ensures.0

-- the stack behind a command, seen from where the function began
abbrev behind : List ℕ → ℕ → List ℕ → ℕ → Point → CodeCommand → List ℕ
behind model at items len x d = stepped x at (command_of model at d) (last_first items len)

abbrev choice : List ℕ → ℕ → Bool → List ℕ
choice items len b = chosen b (last_first items len)

pub returns-in-Condition : goal.returns-in-Condition
unfolding stepped command_of_in
returns-in-Condition c = holds_as c.choose.ensures (ap (choice c.args.items.now c.args.len) c.condition.ensures ∙ ap (behind c.args.model.now c.args.at c.args.items.now c.args.len c.args.x.now) (sym c.in-Condition.is))

pub returns-in-Test : goal.returns-in-Test
unfolding stepped command_of_in numerator
returns-in-Test c = let z = ap (λ (p : Linear). le_z (numerator c.args.x.now p) (pos 0)) c.linear_at.ensures.1 in
    holds_as c.choose-in-Test.ensures (ap (choice c.args.items.now c.args.len) (c.test.ensures ∙ z) ∙ ap (behind c.args.model.now c.args.at c.args.items.now c.args.len c.args.x.now) (sym c.in-Test.is))

pub returns-in-Leaf : goal.returns-in-Leaf
unfolding stepped command_of_in
returns-in-Leaf c = holds_as c.push.ensures (elim c.in-Leaf.is [
  | inl e ↦ ap (behind c.args.model.now c.args.at c.args.items.now c.args.len c.args.x.now) (sym e)
  | inr e ↦ ap (behind c.args.model.now c.args.at c.args.items.now c.args.len c.args.x.now) (sym e)
])

pub returns-in-Give : goal.returns-in-Give
unfolding stepped command_of_in
returns-in-Give c = holds_as c.pop.ensures (ap (behind c.args.model.now c.args.at c.args.items.now c.args.len c.args.x.now) (sym c.in-Give.is))

pub returns-in-Site : goal.returns-in-Site
unfolding stepped command_of_in
returns-in-Site c = holds_as (record { room = c.requires.0; holds = refl }) (elim c.in-Site.is [
  | inl e ↦ ap (behind c.args.model.now c.args.at c.args.items.now c.args.len c.args.x.now) (sym e.4)
  | inr o ↦ elim o [ inl e ↦ ap (behind c.args.model.now c.args.at c.args.items.now c.args.len c.args.x.now) (sym e.1) | inr e ↦ ap (behind c.args.model.now c.args.at c.args.items.now c.args.len c.args.x.now) (sym e) ]
])
