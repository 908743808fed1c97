-- `plain_leaf::code` meets its contract.
use Prim.Native.Nat.{◌+◌, ◌≤◌, ◌<◌}
use native.Mathlib.Omega.{arith}
use lib.ListN.{length}
use borrow.Author.Tests.{lt-ltb, le-ltb}
use Rattle.model_command.specs.CursorReadings.{with_linear}
use Rattle.plain_pass.specs.Pass.{code_at}
use Rattle.plain_leaf.proofs.code.Goals as goal

pub bounds-model-at : goal.bounds-model-at
bounds-model-at c = omega (arith, c.if-at-end.true, c.requires)

pub returns-then-at-end : goal.returns-then-at-end
unfolding code_at
returns-then-at-end c = let h : c.args.at + with_linear ≤ length c.args.model.now = omega (arith, c.if-at-end.true, c.requires) in
    simp (le-ltb _ _ h)

pub returns-else-at-end : goal.returns-else-at-end
unfolding code_at
returns-else-at-end c = let h : length c.args.model.now < c.args.at + with_linear = omega (arith, c.if-at-end.false, c.requires) in
    simp (lt-ltb _ _ h)
