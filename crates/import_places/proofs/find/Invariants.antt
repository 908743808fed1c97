-- `import_places::find` meets its contract: the walk in the state s from i leads to the place that is meant from the start (`At`); the depth is at most i, and the mask below 2 to the count.
use mathlib.Core.Bool.{false}
use lib.ListN.{drop}
use Rattle.import_found.specs.Places.{find as place_after}
use Rattle.import_places.specs.Walking.{signs}
use Rattle.import_places.proofs.Steps.{At}
use Rattle.import_places.proofs.find.Given as goal

abbrev pub invariant-loop-i : goal.invariant-loop-i
invariant-loop-i l = At l.text (place_after (drop l.from l.text) 0 l.value false (signs l.mask l.count)) l.s l.i
