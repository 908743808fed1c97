-- `model_stack::Stack::new` meets its contract.
use mathlib.Core.Path.{refl}
use Rattle.model_stack.specs.Held.{last_first}
use Rattle.model_stack.proofs.Stack.new.Goals as goal

pub returns : goal.returns
unfolding last_first
returns c = refl
