-- `model_stack::Stack::top` meets its contract.
use borrow.Author.Rules.{rules}
use mathlib.Core.Logic.{inl, inr}
use Rattle.model_stack.proofs.Stacked.{top_more, top_none, top_past}
use Rattle.model_stack.proofs.Stack.top.Goals as goal

pub returns-then-self-le-STACK_MOST : goal.returns-then-self-le-STACK_MOST
returns-then-self-le-STACK_MOST c = top_more _ _ c.if-self-gt0.true

pub returns-else-self-gt0 : goal.returns-else-self-gt0
returns-else-self-gt0 c =
    elim c.else-self-gt0.either [ inl h ↦ top_past _ _ h.0 (search rules) | inr h ↦ top_none _ _ h ]
