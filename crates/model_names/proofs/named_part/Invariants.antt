-- `model_names::named_part` meets its contract: the readings from `at` on name the same part as all of them (`Seek`); a command goes on behind its
-- bytes and within the model (`forward`), and one that names has room for its name (`name_room`).
use Prim.Native.Nat.{◌-◌}
use lib.ListN.{length}
use Rattle.model_names.proofs.NameWalk.{Seek}
use Rattle.model_names.proofs.named_part.Given as goal

abbrev pub invariant-loop-c : goal.invariant-loop-c
invariant-loop-c l = Seek l.model l.action l.at

abbrev pub decreases-loop-c : goal.decreases-loop-c
decreases-loop-c l = length l.model - l.at
