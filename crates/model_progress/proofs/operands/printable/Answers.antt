-- `model_progress::operands::printable` meets its contract.
use borrow.Author.Tests.{le-leb, lt-leb}
use Rattle.theory.specs.Verdict.{printable}
use Rattle.model_progress.proofs.operands.printable.Goals as goal

pub returns-then-b-ge32 : goal.returns-then-b-ge32
unfolding printable
returns-then-b-ge32 c = simp (le-leb _ _ c.if-b-ge32.true)

pub returns-else-b-ge32 : goal.returns-else-b-ge32
unfolding printable
returns-else-b-ge32 c = simp (lt-leb _ _ c.if-b-ge32.false)
