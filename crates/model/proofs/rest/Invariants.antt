-- `model::rest` meets its contract: what is left of the readings, judged from the state so far, gives the verdict (`Walk`); each turn refuses, ends
-- or goes on as the rules of its command say, and the offset grows within the model.
use mathlib.Core.Bool.{true}
use Prim.Native.Nat.{◌-◌}
use lib.ListN.{length}
use Rattle.model_form.specs.Forms.{form_of}
use Rattle.model.specs.Walk.{Walk}
use Rattle.model.proofs.rest.Given as goal

abbrev pub invariant-loop-c : goal.invariant-loop-c
invariant-loop-c l = Walk (form_of l.form) l.model l.at (record { begun = true; site = l.site; seen = l.seen }) l.flags

abbrev pub decreases-loop-c : goal.decreases-loop-c
decreases-loop-c l = length l.model - l.at
