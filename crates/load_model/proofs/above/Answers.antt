-- `load_model::above` meets its contract.
use mathlib.Core.Path.{ap}
use Prim.Native.Nat.{ℕ, ◌-◌}
use native.Mathlib.Omega.{arith}
use borrow.Author.Tests.{eq-eqb, ne_eqb}
use Rattle.load_model.specs.ModelRoots.{rows_above}
use Rattle.load_model.proofs.above.Goals as goal

pub returns-then-command-eq-END_WORTH : goal.returns-then-command-eq-END_WORTH
unfolding rows_above
returns-then-command-eq-END_WORTH c = (λ i. rw (eq-eqb _ _ c.if-command-eq-END_WORTH.true) c.from.ensures, omega (arith, c.from.ensures, c.ranges))

pub returns-then-a-eq0 : goal.returns-then-a-eq0
unfolding rows_above
returns-then-a-eq0 c = (λ i. rw (ne_eqb _ _ c.if-command-eq-END_WORTH.false) (omega (arith, c.from-a.ensures, c.if-a-eq0.true)), omega arith)

pub returns : goal.returns
unfolding rows_above
returns c = (λ i. rw (ne_eqb _ _ c.if-command-eq-END_WORTH.false) (ap (λ (x : ℕ). x - 1) c.from-a.ensures), omega (arith, c.from-a.ensures, c.ranges))
