-- `plain_parts::find` meets its contract: for each slot the offset noted so far leads the pass to what the whole pass comes to, and a slot not yet
-- noted lies ahead (`Finds`); each command goes on behind its bytes, so the offset grows.
use Prim.Native.Nat.{◌-◌}
use lib.ListN.{length}
use Rattle.plain_pass.proofs.Finds.{Finds}
use Rattle.plain_parts.proofs.find.Given as goal

abbrev pub invariant-loop-c : goal.invariant-loop-c
invariant-loop-c l = Finds l.model (length l.initial.parts) l.at l.begin l.held l.parts

abbrev pub decreases-loop-c : goal.decreases-loop-c
decreases-loop-c l = length l.model - l.at
