-- `load_model::load` meets its contract: what is left of the readings, loaded on from the table and stack so far, gives what the whole model gives
-- (`Walk`); an accepted model has a whole command at each turn (`turn_none`), so the offset grows, and it ends with all that is wanted.
use mathlib.Core.Path.{◌≡◌}
use Prim.Native.Nat.{◌-◌}
use lib.ListN.{length}
use Rattle.load_model.proofs.Turns.{Walk}
use Rattle.load_model.proofs.load.Given as goal

abbrev pub invariant-loop-c : goal.invariant-loop-c
invariant-loop-c l = Walk l.model l.cap l.nodes l.work l.roots l.at l.s l.ended × (length l.nodes ≡ length l.initial.nodes) × (length l.work ≡ length l.initial.work) × (length l.roots ≡ length l.initial.roots)

abbrev pub decreases-loop-c : goal.decreases-loop-c
decreases-loop-c l = length l.model - l.at
