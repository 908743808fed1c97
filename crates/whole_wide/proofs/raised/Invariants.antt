-- `whole_wide::raised` meets its contract: after so many turns, x times that power of w; a product that is outside stays there.
use Rattle.std.proofs.Common.{◌≡◌, ◌^◌, pos, ◌*ℤ◌}
use Rattle.whole_division.specs.Words.{whole_as}
use Rattle.whole_wide.proofs.raised.Given as goal

abbrev pub invariant-loop : goal.invariant-loop
invariant-loop l = whole_as l.y ≡ whole_as l.fn.x *ℤ pos (l.w ^ l.counter)
