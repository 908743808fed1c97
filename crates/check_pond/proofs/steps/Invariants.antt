-- `check_pond::steps` meets its contract: between two rows nothing has stopped and the table stands with its roots; a row that stops ends the
-- loop, and `at` grows by six.
use Rattle.std.proofs.Common.{◌≡◌, ◌-◌, length}
use Rattle.solve_operation.specs.Operation.{Standing}
use Rattle.check_pond.proofs.steps.Given as goal

abbrev pub invariant-loop-at : goal.invariant-loop-at
invariant-loop-at g l = (l.r.stop ≡ 0) × Standing l.cap l.nodes l.work l.r.count l.roots l.r.held

abbrev pub decreases-loop-at : goal.decreases-loop-at
decreases-loop-at g l = length l.rows - l.at
