-- `model_progress::operands::among` meets its contract.
use borrow.Author.Tests.{le-leb, lt-leb}
use Rattle.theory.specs.Valid.{among}
use Rattle.model_progress.proofs.operands.among.Goals as goal

pub returns-then-k-ge1 : goal.returns-then-k-ge1
unfolding among
returns-then-k-ge1 c = simp (le-leb _ _ c.if-k-ge1.true)

pub returns-else-k-ge1 : goal.returns-else-k-ge1
unfolding among
returns-else-k-ge1 c = simp (lt-leb _ _ c.if-k-ge1.false)
