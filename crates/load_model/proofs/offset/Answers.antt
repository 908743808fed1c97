-- `load_model::offset` meets its contract.
use mathlib.Core.Path.{ap₂}
use Prim.Native.Nat.{ℕ, ◌+◌}
use native.Mathlib.Omega.{arith}
use borrow.Author.Tests.{eq-eqb, ne_eqb}
use Rattle.load_model.specs.ModelRoots.{offset_of}
use Rattle.load_model.proofs.offset.Goals as goal

pub returns-then-command-eq34 : goal.returns-then-command-eq34
unfolding offset_of
returns-then-command-eq34 c = (λ a. rw (eq-eqb _ _ c.if-command-eq34.true) (ap₂ (λ (x y : ℕ). x + y) c.from.ensures c.from-then-command-eq34.ensures), omega (arith, c.from.ensures, c.from-then-command-eq34.ensures, c.ranges))

pub returns-else-command-eq34 : goal.returns-else-command-eq34
unfolding offset_of
returns-else-command-eq34 c = (λ a. rw (ne_eqb _ _ c.if-command-eq34.false) c.from-else-command-eq34.ensures, omega (arith, c.from-else-command-eq34.ensures, c.ranges))
