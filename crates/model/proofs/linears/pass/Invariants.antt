-- `model::linears::pass` meets its contract: the walk stands behind what has been passed, and each turn that passes one goes on behind it.
use mathlib.Core.Bool.{Bool, true}
use mathlib.Core.List.{List}
use Prim.Native.Nat.{◌-◌, ◌≤◌}
use lib.ListN.{length}
use Rattle.model_form.specs.Forms.{form_of}
use Rattle.model.specs.Walk.{Walk}
use Rattle.model.proofs.linears.pass.Given as goal

abbrev pub invariant-loop-after : goal.invariant-loop-after
invariant-loop-after l = (l.initial.at ≤ l.at) × ((F : List Bool) → Walk (form_of l.form) l.model l.initial.at (record { begun = true; site = l.site; seen = l.initial.seen }) F
    → Walk (form_of l.form) l.model l.at (record { begun = true; site = l.site; seen = l.seen }) F)

abbrev pub decreases-loop-after : goal.decreases-loop-after
decreases-loop-after l = length l.model - l.at
