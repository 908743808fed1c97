-- `text_listing::judging::all_good` meets its contract: nodes 1 to r are good; the first that is not decides the whole
-- (`every_false`), as does a last node outside the table (`outside_last`).
use Prim.Native.Nat.{◌≤◌}
use mathlib.Core.Bool.{true}
use mathlib.Core.Path.{◌≡◌}
use Rattle.theory.specs.Value.{good_row}
use Rattle.text_listing.proofs.Every.{every}
use Rattle.text_listing.proofs.judging.all_good.Given as goal

abbrev pub invariant-loop-r : goal.invariant-loop-r
invariant-loop-r l = (l.r ≤ l.last) × (every (good_row l.conditions l.actions l.nodes) l.r ≡ true)
