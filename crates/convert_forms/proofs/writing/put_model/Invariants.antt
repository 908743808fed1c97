-- `convert_forms::writing::put_model` meets its contract: what the commands before `at` become stands at the start of the buffer (`Wrote`); the next
-- one has room since the whole has (`write_room`), and a command that goes on lies within the model, so `at` grows.
use Prim.Native.Nat.{◌-◌}
use lib.ListN.{length}
use Rattle.model_form.specs.Forms.{form_of}
use Rattle.convert_forms.proofs.Pass.{Wrote}
use Rattle.convert_forms.proofs.writing.put_model.Given as goal

abbrev pub invariant-loop-at : goal.invariant-loop-at
invariant-loop-at l = Wrote (form_of l.from) (form_of l.to) l.model l.initial.out l.at l.next l.out

abbrev pub decreases-loop-at : goal.decreases-loop-at
decreases-loop-at l = length l.model - l.at
