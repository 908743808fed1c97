-- `model_stack::Stack::push` meets its contract.
use Rattle.model_stack.proofs.Stacked.{push_more, push_full}
use borrow.Author.Rules.{rules}
use Rattle.model_stack.proofs.Stack.push.Goals as goal

pub returns-then-self-lt-STACK_MOST : goal.returns-then-self-lt-STACK_MOST
returns-then-self-lt-STACK_MOST c = push_more _ _ _ (search rules) c.if-self-lt-STACK_MOST.true

pub returns-else-self-lt-STACK_MOST : goal.returns-else-self-lt-STACK_MOST
returns-else-self-lt-STACK_MOST c = push_full _ _ _ c.if-self-lt-STACK_MOST.false
