-- `model_command_rules::ordered` meets its contract.
use Rattle.theory.specs.Verdict.{first_broken}
use Rattle.model_command_rules.proofs.ordered.Goals as goal

pub returns-then-operand : goal.returns-then-operand
unfolding first_broken
returns-then-operand c = simp c.if-operand.true

pub returns-then-stack : goal.returns-then-stack
unfolding first_broken
returns-then-stack c = simp (c.if-operand.false, c.if-stack.true)

pub returns-then-twice : goal.returns-then-twice
unfolding first_broken
returns-then-twice c = simp (c.if-operand.false, c.if-stack.false, c.if-twice.true)

pub returns-then-diagram : goal.returns-then-diagram
unfolding first_broken
returns-then-diagram c = simp (c.if-operand.false, c.if-stack.false, c.if-twice.false, c.if-diagram.true)

pub returns : goal.returns
unfolding first_broken
returns c = simp (c.if-operand.false, c.if-stack.false, c.if-twice.false, c.if-diagram.false)
