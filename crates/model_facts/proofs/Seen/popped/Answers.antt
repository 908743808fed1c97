-- `model_facts::Seen::popped` meets its contract.
use native.Mathlib.Omega.{arith}
use Rattle.model_facts.proofs.Bits.{seen_popped, seen_none}
use Rattle.model_facts.proofs.Seen.popped.Goals as goal

pub returns-then-self-gt0 : goal.returns-then-self-gt0
returns-then-self-gt0 c = (omega arith, (λ h. omega arith, seen_popped c.args.self.later c.args.self.weights c.args.self.forbids c.args.self.len c.if-self-gt0.true))

pub returns-else-self-gt0 : goal.returns-else-self-gt0
returns-else-self-gt0 c = (omega arith, (λ h. absurd (omega (arith, c.if-self-gt0.false)), seen_none c.args.self.later c.args.self.weights c.args.self.forbids c.args.self.len c.if-self-gt0.false))
