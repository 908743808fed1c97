-- `import_going::start::go` meets its contract: going on from s at i leads to the place that is meant from the start (`Reaching`); each byte goes on or ends at it.
use mathlib.Core.Bool.{false}
use lib.ListN.{drop}
use Rattle.import_found.specs.Places.{go as place-from}
use Rattle.import_places.specs.Walking.{signs}
use Rattle.import_going.proofs.Reaching.{Reaching}
use Rattle.import_going.proofs.start.go.Given as goal

abbrev pub invariant-loop-i : goal.invariant-loop-i
invariant-loop-i l = Reaching l.text (place-from (drop l.from l.text) false (signs l.mask l.count)) l.s l.i
