-- `import_going::bracket::is_cond` meets its contract: the answer from i at this depth is that from the start (`Seeing`); the depth is at most i, so it fits.
use lib.ListN.{drop}
use Rattle.import_found.specs.Places.{is_cond}
use Rattle.import_going.proofs.Steps.{Seeing}
use Rattle.import_going.proofs.bracket.is_cond.Given as goal

abbrev pub invariant-loop-i : goal.invariant-loop-i
invariant-loop-i l = Seeing l.text (is_cond (drop l.from l.text) 0) l.depth l.i
