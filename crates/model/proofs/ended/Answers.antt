-- `model::ended` meets its contract.
use borrow.Author.Tests.{lt-ltb, le-ltb}
use Rattle.theory.specs.Verdict.{ended}
use Rattle.model.proofs.ended.Goals as goal

pub returns-then-at-size : goal.returns-then-at-size
unfolding ended
returns-then-at-size c = λ v. rw (lt-ltb _ _ c.if-at-size.true)

pub returns-else-at-size : goal.returns-else-at-size
unfolding ended
returns-else-at-size c = λ v. rw (le-ltb _ _ c.if-at-size.false)
