-- `whole::limits::power_within` meets its contract: after so many turns p is w to their power, within the limits.
use Rattle.std.proofs.Common.{◌≡◌, ◌^◌, ◌≤◌, of_z, w64}
use Rattle.whole.specs.Within.{limit}
use Rattle.whole.proofs.limits.power_within.Given as goal

abbrev pub invariant-loop : goal.invariant-loop
invariant-loop l = (l.counter ≤ l.e) × (of_z w64 l.p ≡ l.w ^ l.counter) × (of_z w64 l.p ≤ limit)
