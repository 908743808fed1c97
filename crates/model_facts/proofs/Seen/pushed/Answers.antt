-- `model_facts::Seen::pushed` meets its contract.
use native.Mathlib.Omega.{arith}
use Rattle.model_facts.proofs.Bits.{seen_pushed}
use Rattle.model_facts.proofs.Seen.pushed.Goals as goal

pub returns-then-self-lt-STACK_MOST : goal.returns-then-self-lt-STACK_MOST
returns-then-self-lt-STACK_MOST c = let t = c.args.self in
    λ h. seen_pushed t.later t.weights t.forbids t.len c.args.next_step c.args.weights c.args.forbids
    c.below.result c.below-then-self-lt-STACK_MOST.result c.below-then-self-lt-STACK_MOST-2.result c.below.ensures c.below-then-self-lt-STACK_MOST.ensures
    c.below-then-self-lt-STACK_MOST-2.ensures h

pub returns-else-self-lt-STACK_MOST : goal.returns-else-self-lt-STACK_MOST
returns-else-self-lt-STACK_MOST c = λ h. absurd (omega (arith, c.if-self-lt-STACK_MOST.false))
