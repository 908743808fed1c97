-- `convert_model::forbidding::forbids` meets its contract: the readings from `at` on forbid where all of them do (`Searched`); the search ends at the
-- first forbidden leaf or at the last command, and else `at` grows within the model.
use Prim.Native.Nat.{◌-◌}
use lib.ListN.{length}
use Rattle.model_form.specs.Forms.{form_of}
use Rattle.convert_model.proofs.ForbiddenSearch.{Searched}
use Rattle.convert_model.proofs.forbidding.forbids.Given as goal

abbrev pub invariant-loop-form : goal.invariant-loop-form
invariant-loop-form l = Searched (form_of l.form) l.model l.at

abbrev pub decreases-loop-form : goal.decreases-loop-form
decreases-loop-form l = length l.model - l.at
