-- `model_command::next_after_in` meets its contract.
use native.Mathlib.Omega.{arith}
use Prim.Native.Nat.{◌+◌, ◌<◌, ◌≤◌}
use lib.ListN.{length}
use borrow.Author.Tests.{le-leb, lt-leb, lt-ltb, le-ltb}
use Rattle.model_command.specs.CursorReadings.{next_in}
use Rattle.model_command.proofs.next_after_in.Goals as goal

pub returns-then-model-at : goal.returns-then-model-at
unfolding next_in
returns-then-model-at c = simp (le-leb _ _ c.if-model-at.true)

pub returns-then-model-at-2 : goal.returns-then-model-at-2
unfolding next_in
returns-then-model-at-2 c = let h : length c.args.model.now < c.args.at + c.width_in-w.result = omega arith in
    simp (lt-leb _ _ c.if-model-at.false, ← c.width_in-w.ensures.0, lt-ltb _ _ h)

pub returns : goal.returns
unfolding next_in
returns c = let h : c.args.at + c.width_in-w.result ≤ length c.args.model.now = omega arith in
    simp (lt-leb _ _ c.if-model-at.false, ← c.width_in-w.ensures.0, le-ltb _ _ h)
