-- `model_progress::given::base` meets its contract.
use native.Mathlib.Omega.{arith}
use borrow.Author.Tests.{eq-eqb, ne_eqb}
use Rattle.model_progress.specs.GivenFlags.{base_of}
use Rattle.model_progress.proofs.given.base.Goals as goal

pub returns-then-command-eq34 : goal.returns-then-command-eq34
unfolding base_of
returns-then-command-eq34 c = (simp (eq-eqb _ _ c.if-command-eq34.true), omega arith)

pub returns-else-command-eq34 : goal.returns-else-command-eq34
unfolding base_of
returns-else-command-eq34 c = (simp (ne_eqb _ _ c.if-command-eq34.false), omega arith)
