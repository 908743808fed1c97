-- `whole_division::divided_by_power` meets its contract: after so many turns, x divided by that power.
use Rattle.std.proofs.Common.{◌≡◌, ◌^◌}
use Rattle.whole_division.specs.Floor.{floor_by}
use Rattle.whole_division.specs.Words.{whole_as}
use Rattle.whole_division.proofs.divided_by_power.Given as goal

abbrev pub invariant-loop : goal.invariant-loop
invariant-loop l = whole_as l.y ≡ floor_by (whole_as l.fn.x) (l.w ^ l.counter)
