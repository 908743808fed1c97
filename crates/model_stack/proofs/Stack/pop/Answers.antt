-- `model_stack::Stack::pop` meets its contract.
use Rattle.model_stack.proofs.Stacked.{pop_more, pop_none}
use Rattle.model_stack.proofs.Stack.pop.Goals as goal

pub returns-then-self-gt0 : goal.returns-then-self-gt0
returns-then-self-gt0 c = pop_more _ _ c.if-self-gt0.true

pub returns-else-self-gt0 : goal.returns-else-self-gt0
returns-else-self-gt0 c = pop_none _ _ c.if-self-gt0.false
