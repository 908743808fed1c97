-- `convert_forms::writing::model_len` meets its contract: n is the length of what the commands before `at` become (`Counted`), at most 128 for each
-- byte, so the sum fits; a command that goes on lies within the model, so `at` grows.
use Prim.Native.Nat.{◌-◌}
use lib.ListN.{length}
use Rattle.model_form.specs.Forms.{form_of}
use Rattle.convert_forms.proofs.Pass.{Counted}
use Rattle.convert_forms.proofs.writing.model_len.Given as goal

abbrev pub invariant-loop-at : goal.invariant-loop-at
invariant-loop-at l = Counted (form_of l.from) (form_of l.to) l.model l.at l.n

abbrev pub decreases-loop-at : goal.decreases-loop-at
decreases-loop-at l = length l.model - l.at
