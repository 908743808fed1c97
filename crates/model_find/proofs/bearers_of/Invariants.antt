-- `model_find::bearers_of` meets its contract: tallying the readings from `at` on with what is known gives the tally of all (`Pass`);
-- each command goes on behind its bytes and within the model (`forward`).
use Prim.Native.Nat.{◌-◌}
use lib.ListN.{length}
use Rattle.model_find.proofs.Pass.{Pass}
use Rattle.model_find.proofs.bearers_of.Given as goal

abbrev pub invariant-loop-c : goal.invariant-loop-c
invariant-loop-c l = Pass l.model l.name l.at l.known

abbrev pub decreases-loop-c : goal.decreases-loop-c
decreases-loop-c l = length l.model - l.at
