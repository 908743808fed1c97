-- `plain_leaf::push_by` meets its contract: told by its byte, a condition chooses, a forbidden leaf is pushed, and what is left is a linear test that
-- chooses (`condition_left`, `forbidden_left`, `test_left`); room for a linear covers all reads.
use native.Mathlib.Omega.{arith}
use Rattle.theory.specs.Command.{byte_at}
use Rattle.model_stack.specs.Held.{last_first}
use Rattle.plain_pass.proofs.PassWords.{holds_as}
use Rattle.plain_pass.proofs.Turns.{condition_left, forbidden_left, test_left, condition_wide, forbidden_wide, test_wide}
use Rattle.plain_leaf.proofs.push_by.Goals as goal

pub bounds-model-at : goal.bounds-model-at
bounds-model-at c = omega (arith, c.requires.1)

pub overflow_add-at : goal.overflow_add-at
overflow_add-at c = omega (arith, c.requires.1, c.requires.2)

pub bounds-model-at-then-op-eq17 : goal.bounds-model-at-then-op-eq17
bounds-model-at-then-op-eq17 c = omega (arith, c.requires.1)

pub choose-len-requires : goal.choose-len-requires
choose-len-requires c = c.requires.0

pub overflow_add-result : goal.overflow_add-result
overflow_add-result c = omega (arith, c.requires.1, c.requires.2)

pub returns-then-op-eq17 : goal.returns-then-op-eq17
returns-then-op-eq17 c = (
  holds_as c.choose-len.ensures (condition_left c.args.model.now
      c.args.x.now c.args.at
      (byte_at c.args.model.now c.args.at) (last_first c.args.items.now c.args.len) c.requires.4 c.if-op-eq17.true _
      c.condition.ensures),
  condition_wide c.args.at (byte_at c.args.model.now c.args.at) c.if-op-eq17.true,
)

pub overflow_cast-at : goal.overflow_cast-at
overflow_cast-at c = omega (arith, c.requires.1, c.requires.2)

pub push-len-requires : goal.push-len-requires
push-len-requires c = c.requires.0

pub overflow_add-result-then-op-eq19 : goal.overflow_add-result-then-op-eq19
overflow_add-result-then-op-eq19 c = omega (arith, c.requires.1, c.requires.2)

pub returns-then-op-eq19 : goal.returns-then-op-eq19
returns-then-op-eq19 c = (
  holds_as c.push-len.ensures (forbidden_left c.args.model.now
      c.args.x.now c.args.at
      (byte_at c.args.model.now c.args.at) (last_first c.args.items.now c.args.len) c.requires.4 c.if-op-eq17.false
      c.if-op-eq19.true),
  forbidden_wide c.args.at (byte_at c.args.model.now c.args.at) c.if-op-eq17.false c.if-op-eq19.true,
)

pub overflow_add-at-2 : goal.overflow_add-at-2
overflow_add-at-2 c = omega (arith, c.requires.1, c.requires.2)

pub test_at-requires : goal.test_at-requires
test_at-requires c = (omega (arith, c.requires.1), c.requires.3)

pub choose-len-requires-2 : goal.choose-len-requires-2
choose-len-requires-2 c = c.requires.0

pub overflow_add-result-2 : goal.overflow_add-result-2
overflow_add-result-2 c = omega (arith, c.requires.1, c.requires.2)

pub returns : goal.returns
returns c = (
  holds_as c.choose-len-2.ensures (test_left c.args.model.now
      c.args.x.now c.args.at
      (byte_at c.args.model.now c.args.at) (last_first c.args.items.now c.args.len) c.requires.4 c.if-op-eq17.false
      c.if-op-eq19.false _ c.test_at.ensures),
  test_wide c.args.at
      (byte_at c.args.model.now c.args.at) c.if-op-eq17.false c.if-op-eq19.false,
)
