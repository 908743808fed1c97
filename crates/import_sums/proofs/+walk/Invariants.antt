-- `import_sums::walk` meets its contract: the run from a fresh frame at `at` is the run from s at i, whatever brackets are around (`ReachesFrame`). An inner walk may assume its contract; its depth is one less.
use Rattle.std.proofs.Common.{length, ◌-◌}
use Rattle.import_sums.specs.Walks.{ReachesFrame}
use Rattle.import_sums.proofs.+walk.Given as goal

abbrev pub decreases-walk : goal.decreases-walk
decreases-walk l = l.depth

abbrev pub invariant-loop-i : goal.invariant-loop-i
invariant-loop-i l = ReachesFrame l.text l.at l.depth l.only l.s l.i

abbrev pub decreases-loop-i : goal.decreases-loop-i
decreases-loop-i l = length l.text - l.i
