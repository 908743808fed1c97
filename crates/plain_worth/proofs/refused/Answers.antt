-- `plain_worth::refused` meets its contract.
use mathlib.Core.Path.{refl}
use Rattle.whole.specs.Numerator.{words}
use Rattle.plain_worth.proofs.refused.Goals as goal

pub returns : goal.returns
unfolding words
returns c = refl
