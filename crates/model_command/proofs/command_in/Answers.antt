-- `model_command::command_in` meets its contract.
use native.Mathlib.Omega.{arith}
use Prim.Native.Nat.{◌+◌, ◌<◌, ◌≤◌}
use lib.ListN.{length}
use borrow.Author.Tests.{ne_eqb, eq-eqb, le-leb, lt-leb, lt-ltb, le-ltb}
use Rattle.theory.specs.Command.{read_in}
use Rattle.model_command.specs.CursorReadings.{read_of_in}
use Rattle.model_command.proofs.command_in.Goals as goal

pub returns-then-model-at : goal.returns-then-model-at
unfolding read_of_in read_in
returns-then-model-at c = simp (le-leb _ _ c.if-model-at.true)

pub returns-then-w-eq0 : goal.returns-then-w-eq0
unfolding read_of_in read_in
returns-then-w-eq0 c = simp (lt-leb _ _ c.if-model-at.false, ← c.width_in-w.ensures.0, eq-eqb _ _ c.if-w-eq0.true)

pub returns-then-model-at-2 : goal.returns-then-model-at-2
unfolding read_of_in read_in
returns-then-model-at-2 c = let h : length c.args.model.now < c.args.at + c.width_in-w.result = omega arith in
    simp (lt-leb _ _ c.if-model-at.false, ← c.width_in-w.ensures.0, ne_eqb _ _ c.if-w-eq0.false, lt-ltb _ _ h)

pub returns : goal.returns
unfolding read_of_in read_in
returns c = let h : c.args.at + c.width_in-w.result ≤ length c.args.model.now = omega arith in
    simp (lt-leb _ _ c.if-model-at.false, ← c.width_in-w.ensures.0, ne_eqb _ _ c.if-w-eq0.false, le-ltb _ _ h, c.whole_at.ensures)
