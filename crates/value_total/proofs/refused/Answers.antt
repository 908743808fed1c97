-- `value_total::refused` meets its contract.
use mathlib.Core.Path.{refl}
use Rattle.whole.specs.Numerator.{words}
use Rattle.value_total.proofs.refused.Goals as goal

pub returns : goal.returns
unfolding words
returns c = refl
